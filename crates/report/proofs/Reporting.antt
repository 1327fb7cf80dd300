-- From the text's answer to the report, and from the journal's refusal to its line. Assumes nothing.
use mathlib.Core.Path.{◌≡◌, refl, sym, ap, ◌∙◌, subst}
use mathlib.Core.List.{List, []}
use Prim.Native.Nat.{ℕ, ◌≤◌}
use native.Mathlib.Omega.{arith}
use lib.ListN.{length, take, replicate, length-replicate}
use Rattle.laws.specs.Over.{over, sets_over}
use Rattle.paper.specs.Answer.{Answer, done, refused, fault, told, on_done, in_room, leaves, Fills}
use Rattle.paper.specs.AnswerLaws.{refused-done, fault-done, fault-refused, hands-over}
use Rattle.paper.specs.Numbers.{R8}
use Rattle.text.specs.Put.{Puts}
use Rattle.text.specs.PutLaws.{room-is, puts-fit}
use Rattle.journal.specs.Journal.{journal_of}
use Rattle.journal.specs.Says.{says_refusal, refusal-done, refusal-told, names_of, refusal-names}
use Rattle.journal.specs.declared.Line.{Line}
use Rattle.journal.specs.declared.Refusal.{Refusal}
use Rattle.hourly.specs.Text.{hours_text, print_of}
use Rattle.hourly.specs.Bounds.{room-enough}
use Rattle.report.specs.Says.{refusal-fault}
use Rattle.report.specs.Report.{refusal_text, refusal_of, report_from, report_of, seen-enough, journal-named}
use Rattle.report.specs.Promises.{Holds, Reports}
use Rattle.hourly.specs.declared.Products.{Products}
use Rattle.report.specs.declared.Printout.{Printout}

-- a text laid over nothing but 0
pub holds-over : {n : ℕ} (text : List ℕ) (r : Printout n) → r.len ≡ length text → r.bytes ≡ over text (replicate n 0) → Holds text r
holds-over {n} text r k e = hands-over n text (replicate n 0) r.bytes r.len refl k e

-- a text put there
pub holds-put : {n : ℕ} (text : List ℕ) (r : Printout n) → length text ≤ n → Puts (replicate n 0) 0 text r.bytes r.len → Holds text r
holds-put {n} text r h p =
    let m : length (replicate {A = ℕ} n 0) ≡ n = length-replicate {A = ℕ} n 0 in
    let f = puts-fit (room-is (replicate n 0) 0 text (omega (arith, m, h))) p in
    holds-over text r (f.1 ∙ omega arith) (f.0 ∙ sets_over (replicate n 0) text (omega (arith, m, h)))

-- what the text's answer is made of
abbrev print_from : Products → Answer (List Line) → ℕ → Answer (List ℕ)
print_from w a room = on_done a (λ ls. in_room [] room (hours_text w ls))

module _ (w : Products) (s new : List ℕ) where
  abbrev old : List ℕ
  old = replicate 33480 0

  room : 33480 ≤ length old
  room = omega (arith, length-replicate {A = ℕ} 33480 0)

  -- the text stands there
  pub text-holds : (n : ℕ) → Fills (done n) (print_of w s (length old)) old new → Holds {n = 33480} (report_of w s) (record { bytes = new; len = n })
  unfolding report_of report_from print_of on_done told leaves
  text-holds n f = go (journal_of s) refl
    where
      go : (a : Answer (List Line)) → journal_of s ≡ a → Holds {n = 33480} (report_from w a) (record { bytes = new; len = n })
      go (done ls) e =
          let p = room-enough w s ls (length old) e room in
          let says : done n ≡ done (length (hours_text w ls)) = f.says ∙ ap (told length) p in
          let m : n ≡ length (hours_text w ls) = cc in
          holds-over (hours_text w ls) (record { bytes = new; len = n }) m (f.left ∙ ap (λ (a : Answer (List ℕ)). leaves a old) p)
      go (refused k vs) e = refused-done (sym (f.says ∙ ap (λ (a : Answer (List Line)). told length (print_from w a (length old))) e))
      go (fault k vs) e = fault-done (sym (f.says ∙ ap (λ (a : Answer (List Line)). told length (print_from w a (length old))) e))

  -- it always has room
  pub never-short : {Q : Type 0} → Fills (refused R8 []) (print_of w s (length old)) old new → Q
  unfolding print_of on_done told
  never-short {Q} f = go (journal_of s) refl
    where
      go : (a : Answer (List Line)) → journal_of s ≡ a → Q
      go (done ls) e = refused-done (f.says ∙ ap (told length) (room-enough w s ls (length old) e room))
      go (refused k vs) e =
          let q : ◌≡◌ {A = Answer ℕ} (refused R8 []) (refused k vs) = f.says ∙ ap (λ (a : Answer (List Line)). told length (print_from w a (length old))) e in
          let y : R8 ≡ k = cc in
          absurd (omega (arith, (journal-named s k vs e).least))
      go (fault k vs) e = fault-refused (sym (f.says ∙ ap (λ (a : Answer (List Line)). told length (print_from w a (length old))) e))

  -- the journal is refused, and the report is the refusal's line
  pub refused-line : (r : Refusal) → Fills (says_refusal r) (print_of w s (length old)) old new → refusal_of r ≡ report_of w s
  unfolding report_of report_from print_of on_done told
  refused-line r f = go (journal_of s) refl
    where
      line : refusal_of r ≡ report_from w (says_refusal r)
      line = let x = refusal-names r in sym (ap (report_from w) x.1 ∙ ap (λ (k : ℕ). refusal_text (names_of r).number k) x.2)

      go : (a : Answer (List Line)) → journal_of s ≡ a → refusal_of r ≡ report_from w a
      go (done ls) e = refusal-done r (f.says ∙ ap (told length) (room-enough w s ls (length old) e room))
      go (refused k vs) e = line ∙ ap (report_from w) (refusal-told (λ (n : ℕ). []) r ∙ ap (told (λ (n : ℕ). [])) (f.says ∙ ap (λ (a : Answer (List Line)). told length (print_from w a (length old))) e))
      go (fault k vs) e = refusal-fault r (f.says ∙ ap (λ (a : Answer (List Line)). told length (print_from w a (length old))) e)

-- 65,537 bytes were asked for, so it is the report of the journal that was read
pub reports : (w : Products) (bytes seen : List ℕ) (n : ℕ) (r : Printout 33480) → length bytes ≡ 65537 → seen ≡ take n bytes → Holds (report_of w seen) r → Reports w bytes n r
reports w bytes seen n r size e h =
    record {
      holds = subst (λ (l : List ℕ). Holds (report_of w l) r) e h;
      whole = λ s q. subst (λ (l : List ℕ). Holds l r) (ap (report_of w) (e ∙ q ∙ ap (λ (k : ℕ). take k s) size) ∙ seen-enough w s) h;
    }
