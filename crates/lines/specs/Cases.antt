-- Lines, places and steps of an input, run on bytes. Assumes nothing.
use Rattle.std.specs.Prelude.{◌≡◌, refl, Bool, true, false, Option, Some, None, List, [], ◌∷◌, ◌++◌, ℕ, replicate}
use Rattle.laws.specs.Pick.{pick}
use Rattle.lines.specs.declared.Intake.{Intake}
use Rattle.lines.specs.declared.Taken.{Taken}
use Rattle.lines.specs.Lines.{lines_from, lines_of, asked, too_long, begun_of}
use Rattle.lines.specs.Places.{plain_length, end_of}
use Rattle.lines.specs.Intake.{overlong, line_to, begun_to, next_of}

-- a line ends in LF and may be empty; what follows the last LF is no line; CR is a byte of its line; a line that was too long already stays so
pub lines-parted :
    (lines_of [] (1 ∷ 2 ∷ 10 ∷ 10 ∷ 3 ∷ 10 ∷ 4 ∷ []) ≡ (1 ∷ 2 ∷ []) ∷ [] ∷ (3 ∷ []) ∷ [])
    × (lines_of [] (1 ∷ 13 ∷ 10 ∷ []) ≡ (1 ∷ 13 ∷ []) ∷ [])
    × (lines_of (begun_of true) (1 ∷ 10 ∷ 2 ∷ 10 ∷ []) ≡ [] ∷ (2 ∷ []) ∷ [])
unfolding lines_of lines_from asked too_long begun_of pick
lines-parted = (refl, refl, refl)

abbrev intake : ℕ → ℕ → Bool → Intake
intake at have long = record { at = at; have = have; long = long }

abbrev taken : Intake → Option (ℕ × ℕ) → Taken
taken i n = record { intake = i; next = n }

-- two lines and a begun one
abbrev two : List ℕ
two = 5 ∷ 6 ∷ 10 ∷ 7 ∷ 10 ∷ 8 ∷ []

-- line after line, up to what is held and no further; a begun line stays; the end of a line that was too long is an empty one; no place is outside the buffer
pub steps :
    (next_of (intake 0 6 false) two ≡ taken (intake 3 6 false) (Some (0, 2)))
    × (next_of (intake 5 6 false) two ≡ taken (intake 5 6 false) None)
    × (next_of (intake 3 4 false) two ≡ taken (intake 3 4 false) None)
    × (next_of (intake 0 6 true) two ≡ taken (intake 3 6 false) (Some (2, 2)))
    × (next_of (intake 5 6 true) two ≡ taken (intake 6 6 true) None)
    × (next_of (intake 9 6 false) two ≡ taken (intake 9 6 false) None)
unfolding next_of line_to begun_to overlong end_of plain_length pick
steps = (refl, refl, refl, refl, refl, refl)

-- 4,096 bytes are dropped before their LF has come; 4,095 are a line, 4,096 an empty one
pub begun_lines :
    (next_of (intake 0 4096 false) (replicate 4096 48) ≡ taken (intake 4096 4096 true) None)
    × (next_of (intake 0 4096 false) (replicate 4095 48 ++ 10 ∷ []) ≡ taken (intake 4096 4096 false) (Some (0, 4095)))
    × (next_of (intake 0 4097 false) (replicate 4096 48 ++ 10 ∷ []) ≡ taken (intake 4097 4097 false) (Some (4096, 4096)))
unfolding next_of line_to begun_to overlong end_of plain_length pick
begun_lines = (refl, refl, refl)
