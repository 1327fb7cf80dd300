-- Old journals to new and back (document 02, W5). Assumes nothing.
use Rattle.std.specs.Prelude.{Bool, true, false, List, [], ◌∷◌, ℕ, suc, eqb, ltb, length}
use Rattle.laws.specs.Pick.{pick}
use Rattle.paper.specs.Answer.{Answer, refused, on_done, in_room}
use Rattle.paper.specs.Numbers.{R10, R13, R18}
use Rattle.journal.specs.Journal.{form_of, journal_of, journal_text}
use Rattle.journal.specs.declared.Form.{Form}
use Rattle.journal.specs.declared.Form.TheVariants.{Old, New}
use Rattle.journal.specs.declared.Line.{Line}
use Rattle.journal.specs.declared.Line.TheVariants.{Dose, On}

unfoldable pub is_form : Form → Form → Bool
is_form Old Old = true
is_form Old New = false
is_form New Old = false
is_form New New = true

-- a journal of the other form is R10 at line 1 (an empty one is old); R13 stands before it, as in document 01's order, and R10, R11 and R12 of the lines after it
unfoldable pub read_as : Form → List ℕ → Answer (List Line)
read_as f s =
    let lines = pick (is_form f (form_of s)) (journal_of s) (refused R10 (1 ∷ [])) in
    pick (ltb 65536 (length s)) (refused R13 []) lines

-- the product of a line; an H line has none
unfoldable pub product_in : Line → ℕ
product_in (Dose h c a s p) = p
product_in (On h) = 0

-- a D line with a product other than 0 can't go back and is R18 with its line, n being the number of the first of these lines
unfoldable pub goes_back : {X : Type 0} → ℕ → List Line → Answer X → Answer X
goes_back n [] next = next
goes_back n (l ∷ ls) next = let more = goes_back (suc n) ls next in pick (eqb (product_in l) 0) more (refused R18 (n ∷ []))

-- then R13 where the result would pass 65,536 bytes; R8 comes last
unfoldable pub handed : ℕ → List ℕ → Answer (List ℕ)
handed room text = let bytes = in_room [] room text in pick (ltb 65536 (length text)) (refused R13 []) bytes

-- Convert an old journal to W4's form with product 0: its lines are read with it
unfoldable pub renewed_of : List ℕ → ℕ → Answer (List ℕ)
renewed_of s room = on_done (read_as Old s) (λ ls. handed room (journal_text New ls))

-- and a new one to the old form: R18 after document 01's journal refusals; V is line 1
unfoldable pub restored_of : List ℕ → ℕ → Answer (List ℕ)
restored_of s room = on_done (read_as New s) (λ ls. goes_back 2 ls (handed room (journal_text Old ls)))
