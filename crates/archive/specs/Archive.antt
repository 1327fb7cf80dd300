-- What the programs of document 02's W5 print. Assumes nothing.
use Rattle.std.specs.Prelude.{◌≡◌, refl, List, [], ◌∷◌, ℕ, length, get_or, take}
use Rattle.std.proofs.Common.{sym, ap, ◌∙◌, arith, take_all, length-take-le, lt-ltb}
use Rattle.std.proofs.Math.Decide.{dec_lt}
use Rattle.laws.specs.Pick.{pick, pick-t}
use Rattle.laws.specs.Decimal.{decimal, digits_of, glyph}
use Rattle.paper.specs.Answer.{Answer, done, refused, fault, on_done}
use Rattle.paper.specs.Numbers.{R10, R13, R18}
use Rattle.journal.specs.Journal.{journal_text}
use Rattle.journal.specs.declared.Form.{Form}
use Rattle.journal.specs.declared.Form.TheVariants.{Old, New}
use Rattle.journal.specs.declared.Line.{Line}
use Rattle.report.specs.Report.{refusal_text}
use Rattle.conversion.specs.Conversion.{read_as, goes_back, handed, renewed_of, restored_of}

-- the journal in the other form; on a refusal one line only: R, number, line (0 for R13)
unfoldable pub printed_from : Answer (List ℕ) → List ℕ
printed_from (done text) = text
printed_from (refused n vs) = refusal_text n (get_or vs 0 0)
printed_from (fault n vs) = []

-- in a buffer that holds any journal
unfoldable pub renew_print : List ℕ → List ℕ
renew_print s = printed_from (renewed_of s 65536)

unfoldable pub restore_print : List ℕ → List ℕ
restore_print s = printed_from (restored_of s 65536)

pub cases :
    (printed_from (done (86 ∷ 9 ∷ 50 ∷ 10 ∷ [])) ≡ 86 ∷ 9 ∷ 50 ∷ 10 ∷ [])
    × (printed_from (refused R18 (3 ∷ [])) ≡ 82 ∷ 9 ∷ 49 ∷ 56 ∷ 9 ∷ 51 ∷ 10 ∷ [])
    × (printed_from (refused R10 (1 ∷ [])) ≡ 82 ∷ 9 ∷ 49 ∷ 48 ∷ 9 ∷ 49 ∷ 10 ∷ [])
    × (printed_from (refused R13 []) ≡ 82 ∷ 9 ∷ 49 ∷ 51 ∷ 9 ∷ 48 ∷ 10 ∷ [])
unfolding printed_from refusal_text decimal digits_of glyph pick
cases = (refl, refl, refl, refl)

-- the first 65,537 bytes tell it of a journal of any length
read-seen : (f : Form) (s : List ℕ) → read_as f (take 65537 s) ≡ read_as f s
unfolding read_as
read-seen f s =
    elim (dec_lt 65536 (length s)) [
      | yes h ↦
          let n : length (take 65537 s) ≡ 65537 = length-take-le 65537 s (omega arith) in
          pick-t _ _ _ (lt-ltb 65536 (length (take 65537 s)) (omega arith)) ∙ sym (pick-t _ _ _ (lt-ltb 65536 (length s) h))
      | no h ↦ ap (read_as f) (take_all 65537 s (omega arith))
    ]

pub renew-seen : (s : List ℕ) → renew_print (take 65537 s) ≡ renew_print s
unfolding renew_print renewed_of
renew-seen s = ap (λ (a : Answer (List Line)). printed_from (on_done a (λ ls. handed 65536 (journal_text New ls)))) (read-seen Old s)

pub restore-seen : (s : List ℕ) → restore_print (take 65537 s) ≡ restore_print s
unfolding restore_print restored_of
restore-seen s = ap (λ (a : Answer (List Line)). printed_from (on_done a (λ ls. goes_back 2 ls (handed 65536 (journal_text Old ls))))) (read-seen New s)
