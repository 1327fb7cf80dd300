-- An hour's answer (document 01, "Journal and hours", and document 02, W1 and W4). Assumes nothing.
use Rattle.std.specs.Prelude.{Bool, true, false, ◌&&◌, ◌||◌, List, [], ◌∷◌, ◌++◌, ℕ, ◌+◌, max, eqb, pos, length, Float}
use Rattle.std.specs.Float.{binary64}
use Rattle.std.specs.Float.Ieee.{div, of_int}
use Rattle.laws.specs.Pick.{pick}
use Rattle.paper.specs.Answer.{Answer, told}
use Rattle.journal.specs.Journal.{journal_of}
use Rattle.journal.specs.declared.Line.{Line}
use Rattle.journal.specs.declared.Line.TheVariants.{Dose, On}
use Rattle.holes.specs.Holes.{in_hole}
use Rattle.hourly.specs.declared.Products.{Products}
use Rattle.hourly.specs.declared.Products.TheVariants.{All, One}

-- A measured hour carries its sum, largest amount and mean as f64; an idle and a missing one carry none
pub data HourAnswer : Type 0 where
  measured : Float → Float → Float → HourAnswer
  idle : HourAnswer
  missing : HourAnswer

-- Hours are worked out per product when one is asked for: whether a dose of product p is asked for
unfoldable pub asks_for : Products → ℕ → Bool
asks_for All p = true
asks_for (One q) p = eqb p q

-- the amount of a line that is a D of hour h, of a product that is asked for
unfoldable pub dose_at : Products → ℕ → Line → List ℕ
dose_at w h (Dose x c a s p) = pick (asks_for w p && eqb x h) (a ∷ []) []
dose_at w h (On x) = []

-- the amounts of those D lines of hour h, in their order
unfoldable pub amounts_at : Products → ℕ → List Line → List ℕ
amounts_at w h [] = []
amounts_at w h (l ∷ ls) = dose_at w h l ++ amounts_at w h ls

-- a line that is the H of hour h: the box was on for all of that hour
unfoldable pub is_on : ℕ → Line → Bool
is_on h (Dose x c a s p) = false
is_on h (On x) = eqb x h

unfoldable pub has_on : ℕ → List Line → Bool
has_on h [] = false
has_on h (l ∷ ls) = is_on h l || has_on h ls

unfoldable pub total : List ℕ → ℕ
total [] = 0
total (a ∷ as') = a + total as'

unfoldable pub greatest : List ℕ → ℕ
greatest [] = 0
greatest (a ∷ as') = max a (greatest as')

-- a whole number as an f64
unfoldable pub as_f64 : ℕ → Float
as_f64 n = of_int binary64 (pos n)

-- its sum and largest amount as f64, exact
unfoldable pub sum_of : List ℕ → Float
sum_of amounts = as_f64 (total amounts)

unfoldable pub largest_of : List ℕ → Float
largest_of amounts = as_f64 (greatest amounts)

-- the mean one division of the sum by the number of doses
unfoldable pub mean_of : List ℕ → Float
mean_of amounts = div binary64 (sum_of amounts) (as_f64 (length amounts))

-- An hour with an H is measured if it has a D, else idle; where one product is asked for, idle meaning no dose of that product
unfoldable pub measured_or_idle : List ℕ → HourAnswer
measured_or_idle [] = idle
measured_or_idle (a ∷ as') = measured (sum_of (a ∷ as')) (largest_of (a ∷ as')) (mean_of (a ∷ as'))

-- Where the count does not follow, every hour from the earlier D line's hour to the later one's is missing, H lines or not, and for every product; else without an H it is missing, whatever D lines it has
unfoldable pub hour_of : Products → List Line → ℕ → HourAnswer
hour_of w ls h = pick (in_hole h ls) missing (pick (has_on h ls) (measured_or_idle (amounts_at w h ls)) missing)

-- the hour of a journal's bytes, or the journal's refusal
unfoldable pub ask_of : Products → List ℕ → ℕ → Answer HourAnswer
ask_of w s h = told (λ (ls : List Line). hour_of w ls h) (journal_of s)
