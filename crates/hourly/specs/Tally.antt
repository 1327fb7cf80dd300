-- What the pass keeps of each hour while it goes through the lines, and the hour's answer by it. Assumes nothing.
use Rattle.std.specs.Prelude.{◌≡◌, Bool, true, false, List, [], ℕ, ◌+◌, ◌-◌, ◌<◌, max, eqb, ltb, length, get_or}
use Rattle.std.specs.Float.{nan, binary64}
use Rattle.std.specs.Float.Ieee.{add, div}
use Rattle.laws.specs.Pick.{pick}
use Rattle.paper.specs.Answer.{Answer, done, refused, fault}
use Rattle.journal.specs.Journal.{journal_of, first_hour, last_hour}
use Rattle.journal.specs.declared.Line.{Line}
use Rattle.journal.specs.declared.Line.TheVariants.{Dose, On}
use Rattle.journal.specs.declared.Past.{Past}
use Rattle.hourly.specs.Hours.{HourAnswer, measured, idle, missing, asks_for, amounts_at, has_on, total, greatest, as_f64}
use Rattle.holes.specs.Holes.{in_hole}
use Rattle.hourly.specs.declared.Products.{Products}
use Rattle.hourly.specs.declared.Tally.{Tally}
use Rattle.hourly.specs.declared.Summary.{Summary}
use Rattle.hourly.specs.declared.Tallied.{Tallied}

-- the lines of an accepted journal, none of a refused one
abbrev pub lines_in : Answer (List Line) → List Line
lines_in (done ls) = ls
lines_in (refused n vs) = []
lines_in (fault n vs) = []

unfoldable pub lines_of : List ℕ → List Line
lines_of s = lines_in (journal_of s)

-- the number of the lines with an hour, and the hours of the first and the last
unfoldable pub summary_of : List Line → Summary
summary_of ls = record { lines = length ls; first = first_hour ls; last = last_hour ls }

-- ---- the tally of one hour

unfoldable pub no_tally : Tally
no_tally = record { doses = 0; sum = as_f64 0; largest = 0; on = false; holed = false }

unfoldable pub with_dose : Tally → ℕ → Tally
with_dose t a = record { doses = t.doses + 1; sum = add binary64 t.sum (as_f64 a); largest = max t.largest a; on = t.on; holed = t.holed }

unfoldable pub with_on : Tally → Tally
with_on t = record { doses = t.doses; sum = t.sum; largest = t.largest; on = true; holed = t.holed }

-- one line more of the hour: a dose counts if its product is asked for
unfoldable pub counted : Products → Tally → Line → Tally
counted w t (Dose h c a s p) = pick (asks_for w p) (with_dose t a) t
counted w t (On h) = with_on t

-- the tally of an hour with these amounts, with or without an H, in a hole or not
abbrev pub tally_by : List ℕ → Bool → Bool → Tally
tally_by amounts on holed =
    record {
      doses = length amounts;
      sum = as_f64 (total amounts);
      largest = greatest amounts;
      on = on;
      holed = holed;
    }

-- what some lines tell of hour h
unfoldable pub tally_of : Products → List Line → ℕ → Tally
tally_of w ls h = tally_by (amounts_at w h ls) (has_on h ls) (in_hole h ls)

-- and while its holes are marked in a table of their own
unfoldable pub unmarked_of : Products → List Line → ℕ → Tally
unmarked_of w ls h = tally_by (amounts_at w h ls) (has_on h ls) false

unfoldable pub with_hole : Tally → Bool → Tally
with_hole t holed = record { doses = t.doses; sum = t.sum; largest = t.largest; on = t.on; holed = holed }

-- what stands outside a table
abbrev pub outside : Tally
outside = record { doses = 0; sum = nan; largest = 0; on = false; holed = false }

-- a table of the 744 hours from `first` on
pub record Tells (w : Products) (table : List Tally) (first : ℕ) (ls : List Line) : Type 0 where
  pub size : length table ≡ 744
  pub at : (k : ℕ) → k < 744 → get_or table k outside ≡ tally_of w ls (first + k)

pub record Unmarked (w : Products) (table : List Tally) (first : ℕ) (ls : List Line) : Type 0 where
  pub size : length table ≡ 744
  pub at : (k : ℕ) → k < 744 → get_or table k outside ≡ unmarked_of w ls (first + k)

-- a table with the marks set in it
pub record Sets (table : List Tally) (holed : List Bool) (new : List Tally) : Type 0 where
  pub size : length new ≡ 744
  pub at : (k : ℕ) → k < 744 → get_or new k outside ≡ with_hole (get_or table k outside) (get_or holed k false)

-- a journal accepted after n lines, by what they say of the hours
unfoldable pub accepted_after : ℕ → Past → List Tally → Tallied
accepted_after n past table = record { found = record { lines = n; first = past.first; last = past.last }; table = table }

-- the hour's answer by its tally
unfoldable pub hour_from : Tally → HourAnswer
hour_from t = pick t.holed missing (pick t.on (pick (eqb t.doses 0) idle (measured t.sum (as_f64 t.largest) (div binary64 t.sum (as_f64 t.doses)))) missing)

-- and by a table of the hours from the first to the last: outside it is missing
unfoldable pub hour_among : List Tally → Summary → ℕ → HourAnswer
hour_among table found h = pick (ltb h found.first) missing (pick (ltb found.last h) missing (hour_from (get_or table (h - found.first) outside)))
