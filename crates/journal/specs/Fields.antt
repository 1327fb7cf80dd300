-- What the journal's reader takes from a letter: how many fields follow it, and the line that they make. Assumes nothing.
use Rattle.std.specs.Prelude.{List, [], ◌∷◌, ℕ, eqb, get_or}
use Rattle.laws.specs.Pick.{pick}
use Rattle.journal.specs.Line.{letter_d, letter_h, on_from}
use Rattle.journal.specs.declared.Form.{Form}
use Rattle.journal.specs.declared.Form.TheVariants.{Old, New}
use Rattle.journal.specs.declared.Line.{Line}
use Rattle.journal.specs.declared.Line.TheVariants.{Dose}

-- the greatest value of each field that a line can have
unfoldable pub most_of : List ℕ
most_of = 9999999 ∷ 999999 ∷ 1800000 ∷ 1 ∷ 255 ∷ []

-- how many fields a D line has behind its letter
unfoldable pub fields_of_d : Form → ℕ
fields_of_d Old = 4
fields_of_d New = 5

-- how many fields follow a letter, none where it begins no line
unfoldable pub fields_after : Form → ℕ → ℕ
fields_after f b = pick (eqb b letter_d) (fields_of_d f) (pick (eqb b letter_h) 1 0)

-- the product of a dose of n fields, of which this is the last that a line can have
unfoldable pub product_from : ℕ → ℕ → ℕ
product_from n last = pick (eqb n 5) last 0

-- the line of n fields
unfoldable pub line_from : ℕ → List ℕ → Line
line_from n vs = pick (eqb n 1) (on_from vs) (Dose (get_or vs 0 0) (get_or vs 1 0) (get_or vs 2 0) (get_or vs 3 0) (product_from n (get_or vs 4 0)))
