-- Days and weeks on numbers. Assumes nothing.
use Rattle.std.specs.Prelude.{◌≡◌, refl, List, [], ◌∷◌, ℕ, zero, suc, replicate}
use Rattle.journal.specs.declared.Line.{Line}
use Rattle.journal.specs.declared.Line.TheVariants.{Dose, On}
use Rattle.hourly.specs.Text.{hour_rules}
use Rattle.weekly.specs.Week.{list_of, day_by}
use Rattle.weekly.specs.Day.{any, all, is_worked, is_holiday, kind_of, count, covered_of, sum_at, sum_over, day_of, days_of}
use Rattle.weekly.specs.declared.Kind.{Kind}
use Rattle.weekly.specs.declared.Kind.TheVariants.{Worked, Holiday, Unknown}
use Rattle.weekly.specs.declared.Day.{Day}

-- the H lines of n hours from h on
unfoldable pub ons : ℕ → ℕ → List Line
ons h zero = []
ons h (suc n) = On h ∷ ons (suc h) n

abbrev day : Kind → ℕ → ℕ → Day
day k c s = record { kind = k; covered = c; sum = s }

-- to unfold this is to unfold what a day is
unfoldable day_rules : Unit {0}
unfolding hour_rules day_of day_by sum_over sum_at covered_of count kind_of is_worked is_holiday any all list_of
day_rules = tt

-- 24 idle hours are a holiday, whatever hour it begins at; one missing makes it unknown, one measured makes it worked
pub days :
    (day_of (ons 10 24) 10 ≡ day Holiday 0 0)
    × (day_of (ons 10 23) 10 ≡ day Unknown 0 0)
    × (day_of (ons 10 24) 9 ≡ day Unknown 0 0)
    × (day_of (Dose 10 1 500 1 0 ∷ Dose 10 2 498 1 0 ∷ ons 10 24) 10 ≡ day Worked 1 998)
unfolding day_rules ons
days = (refl, refl, refl, refl)

-- a measured hour and 23 missing ones are worked, and two add up, of whatever product; D lines without an H are not; a hole takes a day's hours away
pub worked :
    (day_of (Dose 10 1 5 1 0 ∷ On 10 ∷ []) 3 ≡ day Worked 1 5)
    × (day_of (Dose 10 1 5 1 0 ∷ Dose 11 2 7 1 0 ∷ On 11 ∷ []) 3 ≡ day Worked 1 7)
    × (day_of (Dose 10 1 500 1 0 ∷ On 10 ∷ Dose 12 2 250 0 3 ∷ On 12 ∷ []) 3 ≡ day Worked 2 750)
    × (day_of (Dose 10 1 5 1 0 ∷ []) 3 ≡ day Unknown 0 0)
    × (day_of (Dose 10 1 5 1 0 ∷ On 10 ∷ Dose 12 3 5 1 0 ∷ On 12 ∷ []) 3 ≡ day Unknown 0 0)
unfolding day_rules
worked = (refl, refl, refl, refl, refl)

-- of an empty journal every day is unknown
pub nothing : days_of [] 100 ≡ replicate 7 (day Unknown 0 0)
unfolding day_rules days_of
nothing = refl
