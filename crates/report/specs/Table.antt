-- The rows of a table of tallies, and the text that they make. Assumes nothing.
use Rattle.std.specs.Prelude.{◌≡◌, List, [], ◌∷◌, ℕ, suc, ◌+◌, ◌-◌, ◌^◌, ◌≤◌, ◌<◌, eqb, length, get_or}
use Rattle.std.specs.Float.{binary64}
use Rattle.std.specs.Float.Ieee.{to_bits, to_unsigned}
use Rattle.laws.specs.Pick.{pick}
use Rattle.hourly.specs.Hours.{HourAnswer, measured, idle, missing, as_f64}
use Rattle.hourly.specs.Text.{Row, row_m, row_i, row_x, HourRow, rows_text}
use Rattle.hourly.specs.Tally.{outside, hour_from}
use Rattle.hourly.specs.declared.Summary.{Summary}
use Rattle.hourly.specs.declared.Tally.{Tally}
use Rattle.report.specs.declared.Shown.{Shown}
use Rattle.report.specs.declared.Shown.TheVariants as S

abbrev pub says_shown : Shown → Row
says_shown (S.Measured doses sum bits) = row_m doses sum bits
says_shown S.Idle = row_i
says_shown S.Missing = row_x

-- the sum is a whole number that an f64 holds exactly
pub record Summed (t : Tally) : Type 0 where
  pub whole : ℕ
  pub exact : t.sum ≡ as_f64 whole
  pub small : whole ≤ 2 ^ 53

-- what is printed of an hour by its answer and its tally
abbrev pub shown_by : HourAnswer → Tally → Row
shown_by (measured sum largest mean) t = row_m t.doses (to_unsigned 64 sum) (to_bits binary64 mean)
shown_by idle t = row_i
shown_by missing t = row_x

unfoldable pub shown_of : Tally → Row
shown_of t = shown_by (hour_from t) t

unfoldable pub rows_by : List Tally → ℕ → List HourRow
rows_by [] h = []
rows_by (t ∷ ts) h = record { hour = h; row = shown_of t } ∷ rows_by ts (suc h)

-- the text of some hours, the first of them given
unfoldable pub text_by : List Tally → ℕ → List ℕ
text_by table first = rows_text (rows_by table first)

pub record Printable (table : List Tally) (first : ℕ) : Type 0 where
  pub few : length table ≤ 744
  pub summed : (k : ℕ) → k < length table → Summed (get_or table k outside)
  pub short : length (text_by table first) ≤ 33480

-- how many hours a journal has: none if it is empty
unfoldable pub hours_in : Summary → ℕ
hours_in f = pick (eqb f.lines 0) 0 (f.last - f.first + 1)
