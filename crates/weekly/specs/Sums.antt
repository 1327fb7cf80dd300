-- The sums are exact: an hour's f64 sum is the whole number that its D amounts come to, and so is a day's. Assumes nothing.
use Rattle.std.specs.Prelude.{◌≡◌, refl, Bool, true, false, List, [], ◌∷◌, ◌++◌, map, ℕ, zero, suc, ◌+◌, ◌*◌, ◌≤◌, length}
use Rattle.std.proofs.Common.{ap, ◌∙◌, arith}
use Rattle.laws.specs.Pick.{pick, pick_all}
use Rattle.journal.specs.declared.Line.{Line}
use Rattle.holes.specs.Holes.{in_hole}
use Rattle.hourly.specs.declared.Products.TheVariants.{All}
use Rattle.hourly.specs.Hours.{HourAnswer, missing, amounts_at, has_on, total, sum_of, measured_or_idle, hour_of}
use Rattle.hourly.specs.Floats.{whole_back}
use Rattle.hourly.specs.Accepted.{Accepted}
use Rattle.hourly.specs.Bounds.{modest}
use Rattle.weekly.specs.Week.{list_of, day_by, week_by, week_of}
use Rattle.weekly.specs.Day.{is_measured, kind_of, count, one, covered_of, sum_at, sum_over, day_of, days_of}
use Rattle.weekly.specs.Counted.{sum_in, Whole, day_from}
use Rattle.weekly.specs.Lists.{list_same, list-map, list_length}
use Rattle.weekly.specs.declared.Day.{Day}

-- an hour's D amounts come to at most 16,384 times 1,800,000
pub hour-most : {s : List ℕ} (ls : List Line) (h : ℕ) → Accepted s ls → total (amounts_at All h ls) ≤ 29491200000
hour-most ls h a = omega (arith, (modest All h ls a.ranged).sum, a.few)

-- so its f64 sum is a whole number, and the one that its D amounts come to
sum_is : {s : List ℕ} (ls : List Line) (h : ℕ) → Accepted s ls → Whole (hour_of All ls h) × (sum_in (hour_of All ls h) ≡ sum_at ls h)
unfolding hour_of measured_or_idle sum_of sum_at pick
sum_is ls h a = go (in_hole h ls) (has_on h ls) (amounts_at All h ls) (hour-most ls h a)
  where
    go : (hole on : Bool) (amounts : List ℕ) → total amounts ≤ 29491200000
        → Whole (pick hole missing (pick on (measured_or_idle amounts) missing))
        × (sum_in (pick hole missing (pick on (measured_or_idle amounts) missing)) ≡ pick (is_measured (pick hole missing (pick on (measured_or_idle amounts) missing))) (total amounts) 0)
    go true on amounts b = (tt, refl)
    go false true [] b = (tt, refl)
    go false true (x ∷ xs) b = let w = whole_back (total (x ∷ xs)) (omega arith) in ((w.0, omega (arith, w.1)), w.1)
    go false false amounts b = (tt, refl)

pub hour-whole : {s : List ℕ} (ls : List Line) (h : ℕ) → Accepted s ls → Whole (hour_of All ls h)
hour-whole ls h a = (sum_is ls h a).0

pub hour-sum : {s : List ℕ} (ls : List Line) (h : ℕ) → Accepted s ls → sum_in (hour_of All ls h) ≡ sum_at ls h
hour-sum ls h a = (sum_is ls h a).1

-- a day's f64 sums add up to the sum over its measured hours
pub day-same : {s : List ℕ} (ls : List Line) (h : ℕ) → Accepted s ls → day_from (day_by (hour_of All ls) h) ≡ day_of ls h
unfolding day_from day_of day_by sum_over
day-same ls h a =
    ap (λ (n : ℕ). record { kind = kind_of (day_by (hour_of All ls) h); covered = covered_of (day_by (hour_of All ls) h); sum = n })
    (ap total
    (list-map sum_in (λ (k : ℕ). hour_of All ls (h + k)) 24
    ∙ list_same (λ (k : ℕ). sum_in (hour_of All ls (h + k))) (λ (k : ℕ). sum_at ls (h + k)) 24 (λ k. hour-sum ls (h + k) a)))

pub days-same : {s : List ℕ} (ls : List Line) (first : ℕ) → Accepted s ls → map day_from (week_of ls first) ≡ days_of ls first
unfolding week_of week_by days_of
days-same ls first a =
    list-map day_from (λ (d : ℕ). day_by (hour_of All ls) (first + 24 * d)) 7
    ∙ list_same (λ (d : ℕ). day_from (day_by (hour_of All ls) (first + 24 * d))) (λ (d : ℕ). day_of ls (first + 24 * d)) 7 (λ d. day-same ls (first + 24 * d) a)

-- ---- how large a day can be

sum-at-most : {s : List ℕ} (ls : List Line) (h : ℕ) → Accepted s ls → sum_at ls h ≤ 29491200000
unfolding sum_at
sum-at-most ls h a = pick_all (λ (n : ℕ). n ≤ 29491200000) (is_measured (hour_of All ls h)) (hour-most ls h a) (omega arith)

total-most : (f : ℕ → ℕ) (m n : ℕ) → ((k : ℕ) → f k ≤ m) → total (list_of f n) ≤ m * n
unfolding list_of total
total-most f m zero b = omega arith
total-most f m (suc n) b = omega (arith, total-more (list_of f n) (f n), total-most f m n b, b n)
  where
    total-more : (xs : List ℕ) (x : ℕ) → total (xs ++ (x ∷ [])) ≡ total xs + x
    total-more [] x = omega arith
    total-more (y ∷ xs) x = omega (arith, total-more xs x)

pub count_most : (p : HourAnswer → Bool) (hs : List HourAnswer) → count p hs ≤ length hs
unfolding count
count_most p [] = omega arith
count_most p (h ∷ hs) = omega (arith, one-most (p h), count_most p hs)
  where
    one-most : (b : Bool) → one b ≤ 1
    one-most true = omega arith
    one-most false = omega arith

-- at most 24 hours, and a sum of at most 24 times that: less than 2 ^ 53, so that it is never rounded in an f64 either
pub record Modest (x : Day) : Type 0 where
  pub covered : x.covered ≤ 24
  pub sum : x.sum ≤ 707788800000

pub day-modest : {s : List ℕ} (ls : List Line) (h : ℕ) → Accepted s ls → Modest (day_of ls h)
unfolding day_of day_by covered_of sum_over
day-modest ls h a =
    record {
      covered = omega (arith, count_most is_measured (day_by (hour_of All ls) h), list_length (λ (k : ℕ). hour_of All ls (h + k)) 24);
      sum = omega (arith, total-most (λ (k : ℕ). sum_at ls (h + k)) 29491200000 24 (λ k. sum-at-most ls (h + k) a));
    }
