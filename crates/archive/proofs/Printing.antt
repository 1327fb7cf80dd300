-- From a conversion's answer to what is printed. Assumes nothing.
use mathlib.Core.Path.{◌≡◌, refl, sym, ap, ◌∙◌, subst}
use mathlib.Core.List.{List, [], ◌∷◌}
use Prim.Native.Nat.{ℕ, min}
use lib.ListN.{length, get_or, take, replicate, length-replicate}
use Rattle.paper.specs.Answer.{Answer, done, refused, fault, told, leaves, Fills}
use Rattle.paper.specs.AnswerLaws.{refused-done, fault-done, fault-refused, hands-over}
use Rattle.paper.specs.Numbers.{R8, R18}
use Rattle.journal.specs.Says.{names_of, refusal-names}
use Rattle.report.specs.Report.{refusal_text, seen-is}
use Rattle.conversion.specs.Conversion.{renewed_of, restored_of}
use Rattle.conversion.specs.Says.{says_converted}
use Rattle.conversion.specs.Promises.{Renews, Restores}
use Rattle.std.specs.Prelude.{Result, Ok, Err}
use Rattle.conversion.specs.declared.ConvertError.{ConvertError}
use Rattle.conversion.specs.declared.ConvertError.TheVariants as C
use Rattle.archive.specs.Archive.{printed_from, renew_print, restore_print, renew-seen, restore-seen}
use Rattle.report.specs.Promises.{Holds}
use Rattle.archive.specs.Promises.{Shows, Prints, PrintsRenewed, PrintsRestored}
use Rattle.report.specs.declared.Printout.{Printout}

-- the journal stands there
journal-holds : (rule : Answer (List ℕ)) (new : List ℕ) (n : ℕ) → Fills (done n) rule (replicate 65536 0) new → Holds {n = 65536} (printed_from rule) (record { bytes = new; len = n })
unfolding printed_from told leaves
journal-holds (done text) new n f =
    let says : done n ≡ done (length text) = f.says in
    let m : n ≡ length text = cc in
    hands-over 65536 text (replicate 65536 0) new n refl m f.left
journal-holds (refused k vs) new n f = refused-done (sym f.says)
journal-holds (fault k vs) new n f = fault-done (sym f.says)

-- the line of a refusal
refused-line : (rule : Answer (List ℕ)) (old new : List ℕ) (k : ℕ) (vs : List ℕ) → Fills (refused k vs) rule old new → refusal_text k (get_or vs 0 0) ≡ printed_from rule
unfolding printed_from told
refused-line (done text) old new k vs f = refused-done f.says
refused-line (refused m us) old new k vs f =
    let says : ◌≡◌ {A = Answer ℕ} (refused k vs) (refused m us) = f.says in
    let p : k ≡ m = cc in
    let q : vs ≡ us = cc in
    ap (λ (n : ℕ). refusal_text n (get_or vs 0 0)) p ∙ ap (λ (l : List ℕ). refusal_text m (get_or l 0 0)) q
refused-line (fault m us) old new k vs f = fault-refused (sym f.says)

-- what is shown for a conversion's answer is what the rule prints
shown-holds : (rule : Answer (List ℕ)) (new : List ℕ) (x : Result ℕ ConvertError) (made : Printout 65536) → Fills (says_converted x) rule (replicate 65536 0) new → Shows x new made → Holds (printed_from rule) made
shown-holds rule new (Ok n) made f e = subst (λ (r : Printout 65536). Holds (printed_from rule) r) (sym e) (journal-holds rule new n f)
shown-holds rule new (Err (C.Refused r)) made f h =
    let n = refusal-names r in
    let line = refused-line rule (replicate 65536 0) new (names_of r).number n.0 (subst (λ (a : Answer ℕ). Fills a rule (replicate 65536 0) new) n.1 f) in
    subst (λ (l : List ℕ). Holds l made) (ap (λ (k : ℕ). refusal_text (names_of r).number k) (sym n.2) ∙ line) h
shown-holds rule new (Err (C.R18 n)) made f h = subst (λ (l : List ℕ). Holds l made) (refused-line rule (replicate 65536 0) new R18 (n ∷ []) f) h
shown-holds rule new (Err C.R8) made f h = subst (λ (l : List ℕ). Holds l made) (refused-line rule (replicate 65536 0) new R8 [] f) h

-- 65,537 bytes were asked for, so it is printed for the journal that was read
prints : (rule : List ℕ → List ℕ) → ((s : List ℕ) → rule (take 65537 s) ≡ rule s)
    → (bytes seen : List ℕ) (n : ℕ) (r : Printout 65536) → length bytes ≡ 65537 → seen ≡ take n bytes → Holds (rule seen) r → Prints rule bytes n r
prints rule enough bytes seen n r size e h =
    record {
      holds = subst (λ (l : List ℕ). Holds (rule l) r) e h;
      whole = λ s q. subst (λ (l : List ℕ). Holds l r) (ap rule (e ∙ q ∙ ap (λ (k : ℕ). take k s) size) ∙ enough s) h;
    }

-- the buffer has room for any journal
roomy : length (replicate {A = ℕ} 65536 0) ≡ 65536
roomy = length-replicate {A = ℕ} 65536 0

module _ (bytes new : List ℕ) (n k : ℕ) (x : Result ℕ ConvertError) (made : Printout 65536) (size : length bytes ≡ 65537) (seen : k ≡ min n 65537) (shows : Shows x new made) where
  pub prints-renewed : Renews (take k bytes) x (replicate 65536 0) new → PrintsRenewed bytes n made
  unfolding renew_print
  prints-renewed f =
      prints renew_print renew-seen bytes (take k bytes) n made size (seen-is bytes n k size seen)
      (subst (λ (room : ℕ). Holds (printed_from (renewed_of (take k bytes) room)) made) roomy (shown-holds (renewed_of (take k bytes) (length (replicate {A = ℕ} 65536 0))) new x made f shows))

  pub prints-restored : Restores (take k bytes) x (replicate 65536 0) new → PrintsRestored bytes n made
  unfolding restore_print
  prints-restored f =
      prints restore_print restore-seen bytes (take k bytes) n made size (seen-is bytes n k size seen)
      (subst (λ (room : ℕ). Holds (printed_from (restored_of (take k bytes) room)) made) roomy (shown-holds (restored_of (take k bytes) (length (replicate {A = ℕ} 65536 0))) new x made f shows))
