-- The sheet's text (document 02, W12): a line a day, or the line of a refusal. Assumes nothing.
use Rattle.std.specs.Prelude.{◌≡◌, refl, List, [], ◌∷◌, ◌++◌, ℕ, suc, eqb, get_or, replicate}
use Rattle.laws.specs.Pick.{pick}
use Rattle.laws.specs.Decimal.{decimal, digits_of, glyph, Parsed, good, bad, number_at, digits_from, is_digit}
use Rattle.paper.specs.Answer.{Answer, done, refused, fault, on_done, in_room}
use Rattle.paper.specs.Numbers.{R10, R21}
use Rattle.text.specs.Scan.{LF, TAB}
use Rattle.hourly.specs.Text.{letter_i, letter_x}
use Rattle.report.specs.Report.{refusal_text}
use Rattle.weekly.specs.Week.{latest, first_of, after_journal}
use Rattle.weekly.specs.Day.{days_of}
use Rattle.weekly.specs.declared.Kind.{Kind}
use Rattle.weekly.specs.declared.Kind.TheVariants.{Worked, Holiday, Unknown}
use Rattle.weekly.specs.declared.Day.{Day}

abbrev pub letter_w : ℕ
letter_w = 87

-- W for worked, I for holiday or X for unknown
unfoldable pub letter_of : Kind → ℕ
letter_of Worked = letter_w
letter_of Holiday = letter_i
letter_of Unknown = letter_x

-- a line a day with tabs: day 0 to 6, W, I or X, covered hours, sum
unfoldable pub day_text : ℕ → Day → List ℕ
day_text d x = decimal d ++ TAB ∷ letter_of x.kind ∷ TAB ∷ (decimal x.covered ++ TAB ∷ (decimal x.sum ++ LF ∷ []))

-- the lines of the days from day d on
unfoldable pub days_text : ℕ → List Day → List ℕ
days_text d [] = []
days_text d (x ∷ xs) = day_text d x ++ days_text (suc d) xs

-- the sheet from the buffer's start: the journal's refusals, R21, and R8 last
unfoldable pub print_of : List ℕ → ℕ → ℕ → Answer (List ℕ)
print_of s first room = on_done (after_journal s (first_of first) days_of) (λ ds. in_room [] room (days_text 0 ds))

-- ---- the program

-- the first hour alone on a line: a number, as the journal's are, and nothing behind it; else it is malformed
unfoldable pub first_from : Parsed ℕ → Answer ℕ
first_from (good n []) = done n
first_from (good n (b ∷ bs)) = refused R21 []
first_from bad = refused R21 []

unfoldable pub first_line : List ℕ → Answer ℕ
first_line line = first_from (number_at latest line)

-- the sheet; or, as in the hour program, the one line of a refusal: R, number, line, R21 with line 0
unfoldable pub report_by : Answer (List Day) → List ℕ
report_by (done ds) = days_text 0 ds
report_by (refused n vs) = refusal_text n (get_or vs 0 0)
report_by (fault n vs) = []

unfoldable pub report_of : Answer ℕ → List ℕ → List ℕ
report_of first s = report_by (after_journal s first days_of)

-- what stands before the first LF, and what follows it
pub data Cut : Type 0 where
  no_line : Cut
  cut : List ℕ → List ℕ → Cut

unfoldable pub cut_from : List ℕ → List ℕ → Cut
cut_from begun [] = no_line
cut_from begun (b ∷ bs) = let more = cut_from (begun ++ b ∷ []) bs in pick (eqb b LF) (cut begun bs) more

-- the first hour alone on a line, then the journal, whose lines count from 1; an input without LF has no first line and no journal
unfoldable pub program_by : Cut → List ℕ
program_by no_line = report_of (refused R21 []) []
program_by (cut line rest) = report_of (first_line line) rest

unfoldable pub program_of : List ℕ → List ℕ
program_of input = program_by (cut_from [] input)

-- ---- on numbers

pub day-bytes :
    (day_text 0 (record { kind = Worked; covered = 10; sum = 998 }) ≡ 48 ∷ 9 ∷ 87 ∷ 9 ∷ 49 ∷ 48 ∷ 9 ∷ 57 ∷ 57 ∷ 56 ∷ 10 ∷ [])
    × (day_text 5 (record { kind = Holiday; covered = 0; sum = 0 }) ≡ 53 ∷ 9 ∷ 73 ∷ 9 ∷ 48 ∷ 9 ∷ 48 ∷ 10 ∷ [])
    × (day_text 6 (record { kind = Unknown; covered = 0; sum = 0 }) ≡ 54 ∷ 9 ∷ 88 ∷ 9 ∷ 48 ∷ 9 ∷ 48 ∷ 10 ∷ [])
unfolding day_text letter_of decimal digits_of glyph pick
day-bytes = (refl, refl, refl)

-- seven unknown days, 0 to 6; R21 with line 0, and a journal's refusal with its own
pub reports :
    (report_by (done (replicate 7 (record { kind = Unknown; covered = 0; sum = 0 }))) ≡ 48 ∷ 9 ∷ 88 ∷ 9 ∷ 48 ∷ 9 ∷ 48 ∷ 10 ∷ 49 ∷ 9 ∷ 88 ∷ 9 ∷ 48 ∷ 9 ∷ 48 ∷ 10 ∷ 50 ∷ 9 ∷ 88 ∷ 9 ∷ 48 ∷ 9 ∷ 48 ∷ 10 ∷ 51 ∷ 9 ∷ 88 ∷ 9 ∷ 48 ∷ 9 ∷ 48 ∷ 10 ∷ 52 ∷ 9 ∷ 88 ∷ 9 ∷ 48 ∷ 9 ∷ 48 ∷ 10 ∷ 53 ∷ 9 ∷ 88 ∷ 9 ∷ 48 ∷ 9 ∷ 48 ∷ 10 ∷ 54 ∷ 9 ∷ 88 ∷ 9 ∷ 48 ∷ 9 ∷ 48 ∷ 10 ∷ [])
    × (report_by (refused R21 []) ≡ 82 ∷ 9 ∷ 50 ∷ 49 ∷ 9 ∷ 48 ∷ 10 ∷ [])
    × (report_by (refused R10 (3 ∷ [])) ≡ 82 ∷ 9 ∷ 49 ∷ 48 ∷ 9 ∷ 51 ∷ 10 ∷ [])
unfolding report_by days_text day_text letter_of refusal_text decimal digits_of glyph pick
reports = (refl, refl, refl)

-- 0, 10 and 9,999,832 are first hours; an empty line, a leading zero, a sign, a space or a tab behind it, a space before it, a CR and 9,999,833 are none
pub first-lines :
    (first_line (48 ∷ []) ≡ done 0)
    × (first_line (49 ∷ 48 ∷ []) ≡ done 10)
    × (first_line (57 ∷ 57 ∷ 57 ∷ 57 ∷ 56 ∷ 51 ∷ 50 ∷ []) ≡ done 9999832)
    × (first_line [] ≡ refused R21 [])
    × (first_line (48 ∷ 49 ∷ []) ≡ refused R21 [])
    × (first_line (43 ∷ 49 ∷ []) ≡ refused R21 [])
    × (first_line (49 ∷ 32 ∷ []) ≡ refused R21 [])
    × (first_line (49 ∷ 9 ∷ []) ≡ refused R21 [])
    × (first_line (32 ∷ 49 ∷ []) ≡ refused R21 [])
    × (first_line (45 ∷ 49 ∷ []) ≡ refused R21 [])
    × (first_line (49 ∷ 13 ∷ []) ≡ refused R21 [])
    × (first_line (57 ∷ 57 ∷ 57 ∷ 57 ∷ 56 ∷ 51 ∷ 51 ∷ []) ≡ refused R21 [])
unfolding first_line first_from number_at digits_from is_digit pick
first-lines = (refl, refl, refl, refl, refl, refl, refl, refl, refl, refl, refl, refl)
