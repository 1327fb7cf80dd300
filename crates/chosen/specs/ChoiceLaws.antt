-- The report of a product is the hour program's for it, a refused journal goes before a refused product, 65,537 bytes of a journal tell its report, and which lines are products. Assumes nothing.
use Rattle.std.specs.Prelude.{◌≡◌, refl, List, [], ◌∷◌, ℕ, ◌≤◌, length, get_or, take}
use Rattle.std.proofs.Common.{sym, ap, ◌∙◌, append-nil, arith, take_all, length-take-le}
use Rattle.std.proofs.Math.Decide.{dec_lt}
use Rattle.laws.specs.Decimal.{decimal, Parsed, good, bad, number_at}
use Rattle.laws.specs.DecimalLaws.{number-only, number-decimal}
use Rattle.paper.specs.Answer.{Answer, done, refused, fault, told, on_done}
use Rattle.paper.specs.AnswerLaws.{refused-done}
use Rattle.journal.specs.Line.{version_text}
use Rattle.journal.specs.Journal.{journal_of}
use Rattle.journal.specs.JournalLaws.{journal-long}
use Rattle.journal.specs.declared.Line.{Line}
use Rattle.holes.specs.HoleLaws.{Exactly}
use Rattle.hourly.specs.Text.{hours_text}
use Rattle.hourly.specs.declared.Products.TheVariants.{One}
use Rattle.report.specs.Report.{refusal_text, report_from, report_of, empty-report}
use Rattle.chosen.specs.Choice.{no_product, alone, product_line, chosen_of, printed, chosen_report}

-- for a product it is what the hour program prints for it
pub chosen-product : (q : ℕ) (s : List ℕ) → chosen_report (done q) s ≡ report_of (One q) s
unfolding chosen_report chosen_of printed report_of report_from on_done told
chosen-product q s = go (journal_of s)
  where
    go : (a : Answer (List Line)) → printed (on_done a (λ ls. told (λ q. hours_text (One q) ls) (done q))) ≡ report_from (One q) a
    go (done ls) = refl
    go (refused n vs) = refl
    go (fault n vs) = refl

-- for none it is the line of its refusal where the journal is accepted
pub chosen_none : (n : ℕ) (vs : List ℕ) (s : List ℕ) (ls : List Line) → journal_of s ≡ done ls → chosen_report (refused n vs) s ≡ refusal_text n (get_or vs 0 0)
unfolding chosen_report chosen_of printed on_done told
chosen_none n vs s ls e = ap (λ (a : Answer (List Line)). printed (on_done a (λ ls. told (λ q. hours_text (One q) ls) (refused n vs)))) e

-- and the journal's own where it is not, whatever the first line
pub chosen-refused : (choice : Answer ℕ) (n : ℕ) (vs : List ℕ) (s : List ℕ) → journal_of s ≡ refused n vs → chosen_report choice s ≡ refusal_text n (get_or vs 0 0)
unfolding chosen_report chosen_of printed on_done
chosen-refused choice n vs s e = ap (λ (a : Answer (List Line)). printed (on_done a (λ ls. told (λ q. hours_text (One q) ls) choice))) e

-- the first 65,537 bytes tell what a journal of any length is
pub journal-seen : (s : List ℕ) → journal_of (take 65537 s) ≡ journal_of s
journal-seen s =
    elim (dec_lt 65536 (length s)) [
      | yes h ↦
          let n : length (take 65537 s) ≡ 65537 = length-take-le 65537 s (omega arith) in
          journal-long (take 65537 s) (omega arith) ∙ sym (journal-long s h)
      | no h ↦ ap journal_of (take_all 65537 s (omega arith))
    ]

pub chosen-seen : (choice : Answer ℕ) (s : List ℕ) → chosen_report choice (take 65537 s) ≡ chosen_report choice s
unfolding chosen_report chosen_of
chosen-seen choice s = ap (λ (a : Answer (List Line)). printed (on_done a (λ ls. told (λ q. hours_text (One q) ls) choice))) (journal-seen s)

-- an empty journal prints nothing for a product, and neither does one of the V line alone
pub chosen-empty : (q : ℕ) → (chosen_report (done q) [] ≡ []) × (chosen_report (done q) version_text ≡ [])
chosen-empty q = (chosen-product q [] ∙ (empty-report (One q)).0, chosen-product q version_text ∙ (empty-report (One q)).1)

-- a line is a product exactly if it is its decimal, and at most 255
pub product-exactly : (line : List ℕ) (q : ℕ) → Exactly (product_line line ≡ done q) ((line ≡ decimal q) × (q ≤ 255))
unfolding product_line alone
product-exactly line q = (only (number_at 255 line) refl, made)
  where
    only : (p : Parsed ℕ) → number_at 255 line ≡ p → alone p ≡ done q → (line ≡ decimal q) × (q ≤ 255)
    only (good v []) p e =
        let is : v ≡ q = cc in
        let o = number-only 255 line v [] p in
        (o.0 ∙ append-nil (decimal v) ∙ ap decimal is, omega (arith, o.1))
    only (good v (b ∷ bs)) p e = refused-done e
    only bad p e = refused-done e

    made : (line ≡ decimal q) × (q ≤ 255) → alone (number_at 255 line) ≡ done q
    made b = ap (λ (l : List ℕ). alone (number_at 255 l)) (b.0 ∙ sym (append-nil (decimal q))) ∙ ap alone (number-decimal 255 q [] b.1 tt)

-- every other line is R2 with 0
pub product-none : (line : List ℕ) → ((q : ℕ) → line ≡ decimal q → q ≤ 255 → ⊥) → product_line line ≡ no_product
unfolding product_line alone
product-none line f = go (number_at 255 line) refl
  where
    go : (p : Parsed ℕ) → number_at 255 line ≡ p → alone p ≡ no_product
    go (good v []) p = let o = number-only 255 line v [] p in absurd (f v (o.0 ∙ append-nil (decimal v)) o.1)
    go (good v (b ∷ bs)) p = refl
    go bad p = refl
