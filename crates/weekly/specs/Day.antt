-- What a day was: worked, a holiday or unknown, the sum over its measured hours, and how many they are (document 02, W12). Assumes nothing.
use Rattle.std.specs.Prelude.{Bool, true, false, not, ◌&&◌, ◌||◌, List, [], ◌∷◌, ℕ, ◌+◌, ◌*◌}
use Rattle.laws.specs.Pick.{pick}
use Rattle.journal.specs.declared.Line.{Line}
use Rattle.hourly.specs.declared.Products.TheVariants.{All}
use Rattle.hourly.specs.Hours.{HourAnswer, measured, idle, missing, amounts_at, total, hour_of}
use Rattle.weekly.specs.Week.{list_of, day_by}
use Rattle.weekly.specs.declared.Kind.{Kind}
use Rattle.weekly.specs.declared.Kind.TheVariants.{Worked, Holiday, Unknown}
use Rattle.weekly.specs.declared.Day.{Day}

abbrev pub is_measured : HourAnswer → Bool
is_measured (measured s l m) = true
is_measured idle = false
is_measured missing = false

abbrev pub is_idle : HourAnswer → Bool
is_idle (measured s l m) = false
is_idle idle = true
is_idle missing = false

abbrev pub is_missing : HourAnswer → Bool
is_missing (measured s l m) = false
is_missing idle = false
is_missing missing = true

unfoldable pub any : (HourAnswer → Bool) → List HourAnswer → Bool
any p [] = false
any p (h ∷ hs) = p h || any p hs

unfoldable pub all : (HourAnswer → Bool) → List HourAnswer → Bool
all p [] = true
all p (h ∷ hs) = p h && all p hs

-- W for worked (any hour measured)
unfoldable pub is_worked : List HourAnswer → Bool
is_worked hs = any is_measured hs

-- A day is a holiday exactly when all its 24 hours are idle
unfoldable pub is_holiday : List HourAnswer → Bool
is_holiday hs = all is_idle hs

-- a day with a missing hour and no measured one is unknown
unfoldable pub is_unknown : List HourAnswer → Bool
is_unknown hs = any is_missing hs && not (any is_measured hs)

-- W, I or X: no two of the three hold of a day, and one does (Kinds)
unfoldable pub kind_of : List HourAnswer → Kind
kind_of hs = pick (is_worked hs) Worked (pick (is_holiday hs) Holiday Unknown)

abbrev pub one : Bool → ℕ
one true = 1
one false = 0

unfoldable pub count : (HourAnswer → Bool) → List HourAnswer → ℕ
count p [] = 0
count p (h ∷ hs) = one (p h) + count p hs

-- how many hours that covers: those that the sum is over, the measured ones
unfoldable pub covered_of : List HourAnswer → ℕ
covered_of hs = count is_measured hs

-- what an hour adds to the sum: its D amounts if it is measured, else nothing
unfoldable pub sum_at : List Line → ℕ → ℕ
sum_at ls h = pick (is_measured (hour_of All ls h)) (total (amounts_at All h ls)) 0

-- the sum over its measured hours, exact
unfoldable pub sum_over : List Line → ℕ → ℕ
sum_over ls h = total (list_of (λ (k : ℕ). sum_at ls (h + k)) 24)

-- the day from hour h on
unfoldable pub day_of : List Line → ℕ → Day
day_of ls h = record { kind = kind_of (day_by (hour_of All ls) h); covered = covered_of (day_by (hour_of All ls) h); sum = sum_over ls h }

-- day 0 to 6
unfoldable pub days_of : List Line → ℕ → List Day
days_of ls first = list_of (λ (d : ℕ). day_of ls (first + 24 * d)) 7
