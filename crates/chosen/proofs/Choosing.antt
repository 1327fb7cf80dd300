-- From what the pass says of a journal to the report where no product was given, and to that of any choice. Assumes nothing.
use mathlib.Core.Path.{◌≡◌, refl, sym, ap, ◌∙◌, subst}
use mathlib.Core.List.{List, [], ◌∷◌}
use Prim.Native.Nat.{ℕ}
use Rattle.std.specs.Prelude.{Option}
use lib.ListN.{length, get_or, take}
use Rattle.paper.specs.Answer.{Answer, done, refused, fault, told}
use Rattle.paper.specs.Numbers.{R2}
use Rattle.journal.specs.Journal.{journal_of}
use Rattle.journal.specs.Says.{says_refusal, refusal-done, refusal-told, names_of, refusal-names}
use Rattle.journal.specs.declared.Line.{Line}
use Rattle.journal.specs.declared.Refusal.{Refusal}
use Rattle.hourly.specs.Tally.{summary_of}
use Rattle.hourly.specs.Promises.{judged-lines}
use Rattle.hourly.specs.declared.Summary.{Summary}
use Rattle.report.specs.Says.{refusal-fault}
use Rattle.report.specs.Report.{refusal_text, refusal_of}
use Rattle.report.specs.Promises.{Holds}
use Rattle.report.specs.declared.Printout.{Printout}
use Rattle.chosen.specs.Choice.{no_product, printed, chosen_report}
use Rattle.chosen.specs.ChoiceLaws.{chosen_none, chosen-refused, chosen-seen}
use Rattle.chosen.specs.Says.{says_choice}
use Rattle.chosen.specs.Promises.{ReportsChosen}

-- the journal is accepted: R2 with 0
pub accepted-none : (s : List ℕ) (m : Summary) → done m ≡ told summary_of (journal_of s) → refusal_text R2 0 ≡ chosen_report no_product s
accepted-none s m e = let l = judged-lines s m e in sym (chosen_none R2 (0 ∷ []) s l.0 l.1)

-- the line of a refusal
refusal-text : (r : Refusal) (n : ℕ) (vs : List ℕ) → says_refusal {X = List ℕ} r ≡ refused n vs → refusal_of r ≡ refusal_text n (get_or vs 0 0)
unfolding printed
refusal-text r n vs e =
    let x = refusal-names r in
    sym (ap printed x.1 ∙ ap (λ (k : ℕ). refusal_text (names_of r).number k) x.2) ∙ ap printed e

-- the journal is refused: its own line
pub refused_none : (s : List ℕ) (r : Refusal) → says_refusal r ≡ told summary_of (journal_of s) → refusal_of r ≡ chosen_report no_product s
unfolding told
refused_none s r e = go (journal_of s) refl e
  where
    go : (a : Answer (List Line)) → journal_of s ≡ a → says_refusal r ≡ told summary_of a → refusal_of r ≡ chosen_report no_product s
    go (done ls) q h = refusal-done r h
    go (refused n vs) q h = refusal-text r n vs (refusal-told (λ (m : Summary). []) r ∙ ap (told (λ (m : Summary). [])) h) ∙ sym (chosen-refused no_product n vs s q)
    go (fault n vs) q h = refusal-fault r h

-- 65,537 bytes were asked for, so it is the report of the journal that was read
pub reports : (choice : Option ℕ) (bytes : List ℕ) (n : ℕ) (r : Printout 33480) → length bytes ≡ 65537 → Holds (chosen_report (says_choice choice) (take n bytes)) r → ReportsChosen choice bytes n r
reports choice bytes n r size h =
    record {
      holds = h;
      whole = λ s q. subst (λ (l : List ℕ). Holds l r) (ap (chosen_report (says_choice choice)) (q ∙ ap (λ (k : ℕ). take k s) size) ∙ chosen-seen (says_choice choice) s) h;
    }
