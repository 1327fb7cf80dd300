-- The hour program's text (document 01, "Journal and hours"). Assumes nothing.
use Rattle.std.specs.Prelude.{◌≡◌, refl, List, [], ◌∷◌, ◌++◌, map, ℕ, zero, suc, ◌-◌, pos, length}
use Rattle.std.specs.Float.{binary64}
use Rattle.std.specs.Float.Ieee.{to_bits, div, of_int}
use Rattle.laws.specs.Pick.{pick}
use Rattle.laws.specs.Decimal.{decimal, digits_of, glyph, hex_of}
use Rattle.paper.specs.Answer.{Answer, on_done, in_room}
use Rattle.text.specs.Scan.{LF, TAB}
use Rattle.journal.specs.Journal.{journal_of, first_hour, last_hour, hour_in, example}
use Rattle.journal.specs.declared.Line.{Line}
use Rattle.journal.specs.declared.Line.TheVariants.{Dose, On}
use Rattle.holes.specs.Holes.{hole_rules}
use Rattle.hourly.specs.declared.Products.{Products}
use Rattle.hourly.specs.declared.Products.TheVariants.{All, One}
use Rattle.hourly.specs.Hours.{HourAnswer, measured, idle, missing, hour_of, measured_or_idle, has_on, is_on, asks_for, amounts_at, dose_at, total, greatest, sum_of, largest_of, mean_of, as_f64}

abbrev pub letter_m : ℕ
letter_m = 77

abbrev pub letter_i : ℕ
letter_i = 73

abbrev pub letter_x : ℕ
letter_x = 88

-- what is printed of an hour: M, doses, sum, mean's bits; or I; or X
pub data Row : Type 0 where
  row_m : ℕ → ℕ → ℕ → Row
  row_i : Row
  row_x : Row

-- the hour's answer, with its amounts, as a row
unfoldable pub row_from : HourAnswer → List ℕ → Row
row_from (measured sum largest mean) amounts = row_m (length amounts) (total amounts) (to_bits binary64 mean)
row_from idle amounts = row_i
row_from missing amounts = row_x

unfoldable pub row_of : Products → List Line → ℕ → Row
row_of w ls h = row_from (hour_of w ls h) (amounts_at w h ls)

-- hour, M, doses, sum, mean's bits in 16 hex digits; or hour, I; or hour, X
unfoldable pub row_text : ℕ → Row → List ℕ
row_text h (row_m doses sum bits) =
    decimal h ++ TAB ∷ letter_m ∷ TAB ∷ (decimal doses ++ TAB ∷ (decimal sum ++ TAB ∷ (hex_of 16 bits ++ LF ∷ [])))
row_text h row_i = decimal h ++ TAB ∷ letter_i ∷ LF ∷ []
row_text h row_x = decimal h ++ TAB ∷ letter_x ∷ LF ∷ []

-- n hours from h on
unfoldable pub hours_from : ℕ → ℕ → List ℕ
hours_from h zero = []
hours_from h (suc n) = h ∷ hours_from (suc h) n

-- every hour from first to last, of whatever product their lines are; none of an empty journal
unfoldable pub span_of : List Line → List ℕ
span_of [] = []
span_of (l ∷ ls) = hours_from (first_hour (l ∷ ls)) (suc (last_hour (l ∷ ls) - first_hour (l ∷ ls)))

-- an hour and its row
pub record HourRow : Type 0 where
  pub hour : ℕ
  pub row : Row

unfoldable pub rows_of : Products → List Line → List HourRow
rows_of w ls = map (λ h. record { hour = h; row = row_of w ls h }) (span_of ls)

unfoldable pub rows_text : List HourRow → List ℕ
rows_text [] = []
rows_text (p ∷ ps) = row_text p.hour p.row ++ rows_text ps

unfoldable pub hours_text : Products → List Line → List ℕ
hours_text w ls = rows_text (rows_of w ls)

-- the journal's refusals, then R8
unfoldable pub print_of : Products → List ℕ → ℕ → Answer (List ℕ)
print_of w s room = on_done (journal_of s) (λ ls. in_room [] room (hours_text w ls))

abbrev printed : ℕ → Row → HourRow
printed h r = record { hour = h; row = r }

-- to unfold this is to unfold what an hour answers
unfoldable pub hour_rules : Unit {0}
unfolding hole_rules hour_of measured_or_idle has_on is_on amounts_at dose_at asks_for total greatest sum_of largest_of mean_of as_f64 div of_int
hour_rules = tt

-- and which rows a journal has
unfoldable row_rules : Unit {0}
unfolding hour_rules rows_of span_of hours_from first_hour last_hour hour_in row_of row_from to_bits
row_rules = tt

-- document 01's example, and its first, last and missing row as bytes
pub example-rows : rows_of All example ≡ printed 10 (row_m 2 998 0x407F300000000000) ∷ printed 11 row_i ∷ printed 12 row_x ∷ printed 13 row_i ∷ []
unfolding row_rules
example-rows = refl

pub row-bytes :
    (row_text 10 (row_m 2 998 0x407F300000000000)
    ≡ 49 ∷ 48 ∷ 9 ∷ 77 ∷ 9 ∷ 50 ∷ 9 ∷ 57 ∷ 57 ∷ 56 ∷ 9 ∷ 52 ∷ 48 ∷ 55 ∷ 70 ∷ 51 ∷ 48 ∷ 48 ∷ 48 ∷ 48 ∷ 48 ∷ 48 ∷ 48 ∷ 48 ∷ 48 ∷ 48 ∷ 48 ∷ 10 ∷ [])
    × (row_text 13 row_i ≡ 49 ∷ 51 ∷ 9 ∷ 73 ∷ 10 ∷ [])
    × (row_text 12 row_x ≡ 49 ∷ 50 ∷ 9 ∷ 88 ∷ 10 ∷ [])
unfolding row_text decimal digits_of glyph hex_of pick
row-bytes = (refl, refl, refl)

-- An empty journal prints nothing
pub empty-text : (w : Products) → hours_text w [] ≡ []
unfolding hours_text rows_of span_of rows_text
empty-text w = refl

-- one division: 1, 1 and 3 by 3, where a product with a third would end in A
pub mean-once : to_bits binary64 (mean_of (1 ∷ 1 ∷ 3 ∷ [])) ≡ 0x3FFAAAAAAAAAAAAB
unfolding mean_of sum_of total as_f64 to_bits div of_int
mean-once = refl

-- a closing D without its H is missing; two D lines of an hour without an H too; hour 0; the mean of three amounts, rounded once
pub closing-rows : rows_of All (On 0 ∷ Dose 2 1 1 1 0 ∷ Dose 2 2 1 1 0 ∷ Dose 2 3 0 1 0 ∷ On 2 ∷ Dose 3 4 9 1 0 ∷ Dose 3 5 9 1 0 ∷ [])
    ≡ printed 0 row_i ∷ printed 1 row_x ∷ printed 2 (row_m 3 2 0x3FE5555555555555) ∷ printed 3 row_x ∷ []
unfolding row_rules
closing-rows = refl

-- three lines lost: the hours of the D lines around them and the one between are missing, H lines or not, and those beside them are as they were
pub hole-rows : rows_of All (On 9 ∷ Dose 10 1 7 1 0 ∷ On 10 ∷ On 11 ∷ Dose 12 5 7 1 0 ∷ On 12 ∷ Dose 13 6 7 1 0 ∷ On 13 ∷ On 14 ∷ [])
    ≡ printed 9 row_i ∷ printed 10 row_x ∷ printed 11 row_x ∷ printed 12 row_x ∷ printed 13 (row_m 1 7 0x401C000000000000) ∷ printed 14 row_i ∷ []
unfolding row_rules
hole-rows = refl

-- the sum, the largest amount and the mean of the example's hour 10: 998, 500 and 499; an hour outside is missing
pub example-figures :
    (hour_of All example 10 ≡ measured (of_int binary64 (pos 998)) (of_int binary64 (pos 500)) (of_int binary64 (pos 499)))
    × (largest_of (498 ∷ 500 ∷ 2 ∷ []) ≡ of_int binary64 (pos 500))
    × (hour_of All example 9 ≡ missing)
    × (hour_of All example 14 ≡ missing)
unfolding hour_rules
example-figures = (refl, refl, refl, refl)

-- two products of one hopper: product 7 in hours 10 and 12, product 0 in 10 and 11, an hour 13 with no dose and an hour 14 without its H
abbrev pub two_products : List Line
two_products = Dose 10 1 500 1 0 ∷ Dose 10 2 498 1 7 ∷ Dose 10 3 2 1 7 ∷ On 10 ∷ Dose 11 4 250 0 0 ∷ On 11 ∷ Dose 12 5 8 1 7 ∷ On 12 ∷ On 13 ∷ Dose 14 6 9 1 7 ∷ []

-- over all products as before; for one, with an H an hour without a dose of it is idle, also where another was dosed, and without an H it is missing; for a product that was never dosed too
pub product-rows :
    (rows_of All two_products ≡ printed 10 (row_m 3 1000 0x4074D55555555555) ∷ printed 11 (row_m 1 250 0x406F400000000000) ∷ printed 12 (row_m 1 8 0x4020000000000000) ∷ printed 13 row_i ∷ printed 14 row_x ∷ [])
    × (rows_of (One 7) two_products ≡ printed 10 (row_m 2 500 0x406F400000000000) ∷ printed 11 row_i ∷ printed 12 (row_m 1 8 0x4020000000000000) ∷ printed 13 row_i ∷ printed 14 row_x ∷ [])
    × (rows_of (One 0) two_products ≡ printed 10 (row_m 1 500 0x407F400000000000) ∷ printed 11 (row_m 1 250 0x406F400000000000) ∷ printed 12 row_i ∷ printed 13 row_i ∷ printed 14 row_x ∷ [])
    × (rows_of (One 255) two_products ≡ printed 10 row_i ∷ printed 11 row_i ∷ printed 12 row_i ∷ printed 13 row_i ∷ printed 14 row_x ∷ [])
unfolding row_rules
product-rows = (refl, refl, refl, refl)

-- the first and the last hour are those of the journal's lines, also where another product was dosed there
pub other-ends : rows_of (One 7) (Dose 10 1 500 1 0 ∷ Dose 11 2 8 1 7 ∷ On 11 ∷ Dose 12 3 5 1 0 ∷ []) ≡ printed 10 row_x ∷ printed 11 (row_m 1 8 0x4020000000000000) ∷ printed 12 row_x ∷ []
unfolding row_rules
other-ends = refl

-- a hole makes its hours missing for every product, also for one with no D near it; and counts that follow over all products make none, though those of one product do not
pub product-holes :
    (rows_of (One 3) (On 9 ∷ Dose 10 1 7 1 0 ∷ On 10 ∷ On 11 ∷ Dose 12 5 7 1 7 ∷ On 12 ∷ On 13 ∷ []) ≡ printed 9 row_i ∷ printed 10 row_x ∷ printed 11 row_x ∷ printed 12 row_x ∷ printed 13 row_i ∷ [])
    × (rows_of (One 0) (Dose 10 1 7 1 0 ∷ Dose 10 2 5 1 7 ∷ On 10 ∷ Dose 11 3 7 1 0 ∷ On 11 ∷ []) ≡ printed 10 (row_m 1 7 0x401C000000000000) ∷ printed 11 (row_m 1 7 0x401C000000000000) ∷ [])
unfolding row_rules
product-holes = (refl, refl)
