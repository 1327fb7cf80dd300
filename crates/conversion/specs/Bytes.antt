-- The same byte by byte, as the calls go: what each byte of a line becomes in the other form, by the tabs before it. Assumes nothing.
use Rattle.std.specs.Prelude.{Bool, not, ◌&&◌, List, [], ◌∷◌, ◌++◌, ℕ, suc, ◌+◌, eqb, leb, drop}
use Rattle.laws.specs.Pick.{pick}
use Rattle.paper.specs.Answer.{Answer, refused}
use Rattle.paper.specs.Numbers.{R18}
use Rattle.text.specs.Scan.{LF, TAB}
use Rattle.journal.specs.Journal.{form_of, head_text}
use Rattle.journal.specs.JournalLaws.{head_bytes}
use Rattle.journal.specs.declared.Form.{Form}
use Rattle.journal.specs.declared.Form.TheVariants.{Old, New}
use Rattle.conversion.specs.Conversion.{handed}

-- the tabs of a line after one byte more
unfoldable pub tabs_after : ℕ → ℕ → ℕ
tabs_after t b = pick (eqb b LF) 0 (pick (eqb b TAB) (t + 1) t)

-- to the new form: a line of four fields, which is a dose, gains the field 0 before its LF
unfoldable pub new_piece : ℕ → ℕ → List ℕ
new_piece t b = pick (eqb b LF && eqb t 4) (TAB ∷ 48 ∷ LF ∷ []) (b ∷ [])

-- to the old form: the fifth field falls, with its tab
unfoldable pub old_piece : ℕ → ℕ → List ℕ
old_piece t b = pick (leb (tabs_after t b) 4) (b ∷ []) []

unfoldable pub piece_of : Form → ℕ → ℕ → List ℕ
piece_of Old t b = old_piece t b
piece_of New t b = new_piece t b

-- what some bytes become in a form, t tabs before them
unfoldable pub bytes_to : Form → ℕ → List ℕ → List ℕ
bytes_to f t [] = []
bytes_to f t (b ∷ bs) = piece_of f t b ++ bytes_to f (tabs_after t b) bs

-- what a journal becomes in a form: what stands before its first line with an hour, and its lines
unfoldable pub bytes_of : Form → List ℕ → List ℕ
bytes_of f s = head_text f ++ bytes_to f 0 (drop (head_bytes (form_of s)) s)

-- a digit of the fifth field other than 0
unfoldable pub is_other : ℕ → ℕ → Bool
is_other t b = eqb t 5 && (not (eqb b LF) && not (eqb b 48))

unfoldable pub line_after : ℕ → ℕ → ℕ
line_after n b = pick (eqb b LF) (suc n) n

-- the number of the first line with such a digit, line n being the first, or 0
unfoldable pub other_from : ℕ → ℕ → List ℕ → ℕ
other_from n t [] = 0
other_from n t (b ∷ bs) = let more = other_from (line_after n b) (tabs_after t b) bs in pick (is_other t b) n more

-- to the old form: R18 with that line, else the journal's bytes
unfoldable pub back_from : List ℕ → ℕ → Answer (List ℕ)
back_from s room =
    let other = other_from 2 0 (drop 4 s) in
    pick (eqb other 0) (handed room (bytes_of Old s)) (refused R18 (other ∷ []))
