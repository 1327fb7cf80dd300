-- What the code keeps on its way: a day by its f64 sums, the hours seen so far, and the week by an accepted journal's tallies. Assumes nothing.
use Rattle.std.specs.Prelude.{◌≡◌, List, [], ◌∷◌, map, ℕ, ◌+◌, ◌^◌, ◌≤◌, ◌<◌, T, ltb, eqb, Result}
use Rattle.std.specs.Float.{binary64}
use Rattle.std.specs.Float.Ieee.{to_unsigned, in_unsigned}
use Rattle.laws.specs.Pick.{pick}
use Rattle.paper.specs.Answer.{told}
use Rattle.hourly.specs.Hours.{HourAnswer, measured, idle, missing, total}
use Rattle.hourly.specs.Tally.{hour_among}
use Rattle.hourly.specs.declared.Hour.{Hour}
use Rattle.hourly.specs.declared.Summary.{Summary}
use Rattle.hourly.specs.declared.Tally.{Tally}
use Rattle.weekly.specs.Week.{week_by, first_of}
use Rattle.weekly.specs.Day.{kind_of, covered_of}
use Rattle.weekly.specs.Says.{says_weekly}
use Rattle.weekly.specs.declared.WeekError.{WeekError}
use Rattle.weekly.specs.declared.Kind.{Kind}
use Rattle.weekly.specs.declared.Kind.TheVariants.{Worked, Holiday, Unknown}
use Rattle.weekly.specs.declared.Day.{Day}
use Rattle.weekly.specs.declared.Seen.{Seen}

-- each element of a list is so
abbrev pub Each : {A : Type 0} → (A → Type 0) → List A → Type 0
Each P [] = Unit {0}
Each P (x ∷ xs) = P x × Each P xs

-- ---- the sum by the f64 sums of the hours

-- the whole number that a measured hour's f64 sum is
abbrev pub sum_in : HourAnswer → ℕ
sum_in (measured s l m) = to_unsigned 64 s
sum_in idle = 0
sum_in missing = 0

-- a measured hour's f64 sum is a whole number of at most 29,491,200,000 (16,384 amounts of 1,800,000): far below 2 ^ 53, so nothing is lost
abbrev pub Whole : HourAnswer → Type 0
Whole (measured s l m) = T (in_unsigned binary64 64 s) × (to_unsigned 64 s ≤ 29491200000)
Whole idle = Unit {0}
Whole missing = Unit {0}

unfoldable pub day_from : List HourAnswer → Day
day_from hs = record { kind = kind_of hs; covered = covered_of hs; sum = total (map sum_in hs) }

-- ---- on the way through a day

-- one hour more
unfoldable pub with_hour : Seen → HourAnswer → Seen
with_hour s (measured sum l m) = record { sum = s.sum + to_unsigned 64 sum; covered = s.covered + 1; idle = s.idle }
with_hour s idle = record { sum = s.sum; covered = s.covered; idle = s.idle + 1 }
with_hour s missing = s

pub record Room (s : Seen) (h : HourAnswer) : Type 0 where
  pub whole : Whole h
  pub sum : s.sum + sum_in h < 2 ^ 64
  pub covered : s.covered < 24
  pub idle : s.idle < 24

-- the kind by the counts of a day's twenty-four hours
unfoldable pub kind_by : ℕ → ℕ → Kind
kind_by c i = pick (ltb 0 c) Worked (pick (eqb i 24) Holiday Unknown)

-- ---- the week of an accepted journal, by its tallies

abbrev pub WeekBy : List Tally → Summary → ℕ → Result (List (List Hour)) WeekError → Type 0
WeekBy table found first r = says_weekly r ≡ told (week_by (hour_among table found)) (first_of first)
