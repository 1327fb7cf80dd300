-- From the answer of printing to the report. Assumes nothing.
use Rattle.std.specs.Prelude.{Option}
use mathlib.Core.Path.{◌≡◌, refl, sym, ap, ◌∙◌, subst}
use mathlib.Core.Bool.{Bool, true, false}
use mathlib.Core.List.{List, []}
use Prim.Native.Nat.{ℕ, ◌≤◌, min}
use native.Mathlib.Omega.{arith}
use lib.Dec.{leb}
use lib.ListN.{length, take, replicate, length-replicate}
use borrow.Author.Tests.{le-leb}
use Rattle.laws.specs.Pick.{pick, pick-t}
use Rattle.paper.specs.Answer.{Answer, done, refused, fault, told, on_done, in_room, leaves, Fills}
use Rattle.paper.specs.AnswerLaws.{refused-done, fault-done, fault-refused, done_refused, hands-over}
use Rattle.paper.specs.Numbers.{R8, R10, R21}
use Rattle.journal.specs.Journal.{journal_of}
use Rattle.journal.specs.Says.{refusal-told, names_of, refusal-names}
use Rattle.journal.specs.declared.Line.{Line}
use Rattle.report.specs.Report.{refusal_text, journal-named}
use Rattle.weekly.specs.Week.{first_of, after_journal}
use Rattle.weekly.specs.Day.{days_of}
use Rattle.weekly.specs.Says.{says_error, error-done}
use Rattle.weekly.specs.declared.WeekError.{WeekError}
use Rattle.weekly.specs.declared.WeekError.TheVariants as E
use Rattle.weekly.specs.declared.Day.{Day}
use Rattle.sheet.specs.Lines.{days_text, print_of, report_by, report_of}
use Rattle.sheet.specs.Lengths.{made-short, seen-enough}
use Rattle.sheet.specs.Says.{given_first, error_text}
use Rattle.report.specs.Promises.{Holds}
use Rattle.sheet.specs.Promises.{Reports}
use Rattle.report.specs.declared.Printout.{Printout}

-- no week is refused with R8
later : (s : List ℕ) (n k : ℕ) (vs : List ℕ) → after_journal s (first_of n) days_of ≡ refused k vs → R10 ≤ k
unfolding after_journal on_done told first_of pick
later s n k vs e = go (journal_of s) refl e
  where
    first : (b : Bool) (ls : List Line) → told (days_of ls) (pick b (done n) (refused R21 [])) ≡ refused k vs → R10 ≤ k
    first true ls e = done_refused e
    first false ls e = let q : R21 ≡ k = cc in omega arith

    go : (a : Answer (List Line)) → journal_of s ≡ a → on_done a (λ ls. told (days_of ls) (first_of n)) ≡ refused k vs → R10 ≤ k
    go (done ls) j e = first (leb n 9999832) ls e
    go (refused m us) j e = let q : m ≡ k = cc in omega (arith, (journal-named s m us j).least)
    go (fault m us) j e = fault-refused e

module _ (s : List ℕ) (n : ℕ) (old new : List ℕ) (z : old ≡ replicate 140 0) where
  abbrev made : Answer (List Day)
  made = after_journal s (first_of n) days_of

  abbrev printed : Answer (List Day) → Answer (List ℕ)
  printed a = on_done a (λ ds. in_room [] (length old) (days_text 0 ds))

  room : (ds : List Day) → made ≡ done ds → in_room [] (length old) (days_text 0 ds) ≡ done (days_text 0 ds)
  unfolding in_room
  room ds e =
      let size : length old ≡ 140 = ap length z ∙ length-replicate {A = ℕ} 140 0 in
      pick-t (leb (length (days_text 0 ds)) (length old)) (done (days_text 0 ds)) (refused R8 []) (le-leb (length (days_text 0 ds)) (length old) (omega (arith, made-short s (first_of n) ds e)))

  -- the sheet stands there
  pub text-holds : (len : ℕ) → Fills (done len) (print_of s n (length old)) old new → Holds {n = 140} (report_of (first_of n) s) (record { bytes = new; len = len })
  unfolding report_of report_by print_of on_done told leaves
  text-holds len f = go made refl
    where
      go : (a : Answer (List Day)) → made ≡ a → Holds {n = 140} (report_by a) (record { bytes = new; len = len })
      go (done ds) e =
          let p : printed made ≡ done (days_text 0 ds) = ap printed e ∙ room ds e in
          let says : done len ≡ done (length (days_text 0 ds)) = f.says ∙ ap (told length) p in
          let m : len ≡ length (days_text 0 ds) = cc in
          hands-over 140 (days_text 0 ds) old new len z m (f.left ∙ ap (λ (a : Answer (List ℕ)). leaves a old) p)
      go (refused k vs) e = refused-done (sym (f.says ∙ ap (λ (a : Answer (List Day)). told length (printed a)) e))
      go (fault k vs) e = fault-done (sym (f.says ∙ ap (λ (a : Answer (List Day)). told length (printed a)) e))

  -- it always has room
  pub never-short : {Q : Type 0} → Fills (refused R8 []) (print_of s n (length old)) old new → Q
  unfolding print_of on_done told
  never-short {Q} f = go made refl
    where
      go : (a : Answer (List Day)) → made ≡ a → Q
      go (done ds) e = refused-done (f.says ∙ ap (told length) (ap printed e ∙ room ds e))
      go (refused k vs) e =
          let q : ◌≡◌ {A = Answer ℕ} (refused R8 []) (refused k vs) = f.says ∙ ap (λ (a : Answer (List Day)). told length (printed a)) e in
          let y : R8 ≡ k = cc in
          absurd (omega (arith, later s n k vs e))
      go (fault k vs) e = fault-refused (sym (f.says ∙ ap (λ (a : Answer (List Day)). told length (printed a)) e))

  -- there is no week, and the report is the line of why
  pub error-line : (x : WeekError) → Fills (says_error x) (print_of s n (length old)) old new → error_text x ≡ report_of (first_of n) s
  unfolding report_of report_by print_of on_done told error_text
  error-line x f = go made refl
    where
      line : (x : WeekError) → error_text x ≡ report_by (says_error x)
      line (E.Refused r) = let y = refusal-names r in sym (ap report_by y.1 ∙ ap (λ (k : ℕ). refusal_text (names_of r).number k) y.2)
      line E.R21 = refl

      same-error : (x : WeekError) → says_error {X = List Day} x ≡ told (λ (m : ℕ). []) (says_error {X = ℕ} x)
      same-error (E.Refused r) = refusal-told (λ (m : ℕ). []) r
      same-error E.R21 = refl

      go : (a : Answer (List Day)) → made ≡ a → error_text x ≡ report_by a
      go (done ds) e = error-done x (f.says ∙ ap (told length) (ap printed e ∙ room ds e))
      go (refused k vs) e = line x ∙ ap report_by (same-error x ∙ ap (told (λ (m : ℕ). [])) (f.says ∙ ap (λ (a : Answer (List Day)). told length (printed a)) e))
      go (fault k vs) e = line x ∙ ap report_by (same-error x ∙ ap (told (λ (m : ℕ). [])) (f.says ∙ ap (λ (a : Answer (List Day)). told length (printed a)) e))

-- 65,537 bytes were asked for, so it is the report of the journal that was read
pub reports : (first : Option ℕ) (bytes seen : List ℕ) (n m : ℕ) (r : Printout 140) → length bytes ≡ 65537 → seen ≡ take n bytes → first_of m ≡ given_first first → Holds (report_of (first_of m) seen) r → Reports first bytes n r
unfolding report_of
reports first bytes seen n m r size e f h =
    let g : Holds (report_of (given_first first) seen) r = subst (λ (a : Answer ℕ). Holds (report_of a seen) r) f h in
    record {
      holds = subst (λ (l : List ℕ). Holds (report_of (given_first first) l) r) e g;
      whole = λ s q. subst (λ (l : List ℕ). Holds l r) (ap (report_of (given_first first)) (e ∙ q ∙ ap (λ (k : ℕ). take k s) size) ∙ ap report_by (seen-enough s (given_first first) days_of)) g;
    }
