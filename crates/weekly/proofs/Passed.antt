-- A day on the way through it: what is counted so far and what is left give the whole day. Assumes nothing.
use mathlib.Core.Path.{◌≡◌, refl, sym, ap, ◌∙◌}
use mathlib.Core.Bool.{Bool, true, false, ◌&&◌, ◌||◌}
use mathlib.Core.List.{List, [], ◌∷◌, map}
use Prim.Native.Nat.{ℕ, zero, suc, ◌+◌, ◌*◌, ◌≤◌, ◌<◌}
use native.Mathlib.Numerals.{add-one}
use native.Mathlib.Omega.{arith}
use borrow.Author.Tests.{lt-ltb, ne_eqb}
use lib.Dec.{ltb, eqb, eqb-suc-suc}
use lib.ListN.{length, get_or, drop, drop_of_length-le, length-map}
use lib.Seq.{drop-cons}
use Rattle.hourly.specs.Hours.{HourAnswer, measured, idle, missing, total}
use Rattle.hourly.specs.Says.{says_hour}
use Rattle.hourly.specs.declared.Hour.{Hour}
use Rattle.weekly.specs.Day.{is_measured, is_idle, any, all, one, count, is_worked, is_holiday, kind_of, covered_of}
use Rattle.weekly.specs.Counted.{Each, Whole, sum_in, day_from, with_hour, Room, kind_by}
use Rattle.weekly.specs.Lists.{each_at}
use Rattle.weekly.specs.Sums.{count_most}
use Rattle.weekly.proofs.Filled.{Mapped, at_map}
use Rattle.weekly.specs.Says.{says_hours}
use Rattle.weekly.specs.declared.Kind.{Kind}
use Rattle.weekly.specs.declared.Seen.{Seen}
use Rattle.weekly.specs.declared.Day.{Day}

abbrev sums : List HourAnswer → ℕ
sums hs = total (map sum_in hs)

record Passed (hs : List HourAnswer) (s : Seen) (k : ℕ) : Type 0 where
  size : length hs ≡ 24
  few : k ≤ 24
  sum : s.sum + sums (drop k hs) ≡ sums hs
  covered : s.covered + count is_measured (drop k hs) ≡ count is_measured hs
  idle : s.idle + count is_idle (drop k hs) ≡ count is_idle hs
  covered-few : s.covered ≤ k
  idle-few : s.idle ≤ k

passed_none : (hs : List HourAnswer) (s : Seen) → length hs ≡ 24 → s.sum ≡ 0 → s.covered ≡ 0 → s.idle ≡ 0 → Passed hs s 0
passed_none hs s h a b c =
    record { size = h; few = omega arith; sum = omega arith; covered = omega arith; idle = omega arith; covered-few = omega arith; idle-few = omega arith }

-- one hour more of what is left
sum_step : (hs : List HourAnswer) (k : ℕ) (d : HourAnswer) → k < length hs → sums (drop k hs) ≡ sum_in (get_or hs k d) + sums (drop (suc k) hs)
unfolding total
sum_step hs k d h = ap sums (drop-cons hs k d h)

count-step : (p : HourAnswer → Bool) (hs : List HourAnswer) (k : ℕ) (d : HourAnswer) → k < length hs → count p (drop k hs) ≡ one (p (get_or hs k d)) + count p (drop (suc k) hs)
unfolding count
count-step p hs k d h = ap (count p) (drop-cons hs k d h)

sum-in-small : (h : HourAnswer) → Whole h → sum_in h ≤ 29491200000
sum-in-small (measured s l m) w = w.1
sum-in-small idle w = omega arith
sum-in-small missing w = omega arith

day-sum-small : (hs : List HourAnswer) → Each Whole hs → sums hs ≤ 29491200000 * length hs
unfolding total
day-sum-small [] a = omega arith
day-sum-small (h ∷ hs) a = omega (arith, sum-in-small h a.0, day-sum-small hs a.1)

-- there is room for the next hour
passed-room : (hs : List HourAnswer) (s : Seen) (k : ℕ) (x : HourAnswer) → Passed hs s k → k < 24 → Each Whole hs → get_or hs k missing ≡ x → Room s x
passed-room hs s k x p h w e =
    let size = p.size in
    rw (← e)
    (record {
      whole = each_at Whole hs k missing w (omega arith);
      sum = omega (arith, p.sum, sum_step hs k missing (omega arith), day-sum-small hs w);
      covered = omega (arith, p.covered-few);
      idle = omega (arith, p.idle-few);
    })

-- what one hour more adds
with-sum : (s : Seen) (h : HourAnswer) → (with_hour s h).sum ≡ s.sum + sum_in h
unfolding with_hour
with-sum s (measured u l m) = refl
with-sum s idle = omega arith
with-sum s missing = omega arith

with-covered : (s : Seen) (h : HourAnswer) → (with_hour s h).covered ≡ s.covered + one (is_measured h)
unfolding with_hour
with-covered s (measured u l m) = refl
with-covered s idle = omega arith
with-covered s missing = omega arith

with-idle : (s : Seen) (h : HourAnswer) → (with_hour s h).idle ≡ s.idle + one (is_idle h)
unfolding with_hour
with-idle s (measured u l m) = omega arith
with-idle s idle = refl
with-idle s missing = omega arith

one-most : (b : Bool) → one b ≤ 1
one-most true = omega arith
one-most false = omega arith

-- the next hour counted
passed-suc : (hs : List HourAnswer) (s : Seen) (k : ℕ) → Passed hs s k → k < 24 → k < length hs → Passed hs (with_hour s (get_or hs k missing)) (suc k)
passed-suc hs s k p h l =
    let x = get_or hs k missing in
    record {
      size = p.size;
      few = h;
      sum = omega (arith, p.sum, sum_step hs k missing l, with-sum s x);
      covered = omega (arith, p.covered, count-step is_measured hs k missing l, with-covered s x);
      idle = omega (arith, p.idle, count-step is_idle hs k missing l, with-idle s x);
      covered-few = omega (arith, p.covered-few, with-covered s x, one-most (is_measured x));
      idle-few = omega (arith, p.idle-few, with-idle s x, one-most (is_idle x));
    }

passed-more : (hs : List HourAnswer) (s t : Seen) (k : ℕ) (x : HourAnswer) → Passed hs s k → k < 24 → get_or hs k missing ≡ x → t ≡ with_hour s x → Passed hs t (k + 1)
passed-more hs s t k x p h q e = rw (e, ← q, add-one k) (passed-suc hs s k p h (omega (arith, p.size)))

-- some hour is so where their number is above 0
any-count : (p : HourAnswer → Bool) (hs : List HourAnswer) → any p hs ≡ ltb 0 (count p hs)
unfolding any count
any-count p [] = refl
any-count p (h ∷ hs) = go (p h) (any-count p hs)
  where
    go : (b : Bool) → any p hs ≡ ltb 0 (count p hs) → (b || any p hs) ≡ ltb 0 (one b + count p hs)
    go true e = sym (lt-ltb 0 (1 + count p hs) (omega arith))
    go false e = let z : count p hs ≡ 0 + count p hs = omega arith in e ∙ ap (ltb 0) z

-- every hour is so where their number is that of all hours
all-count : (p : HourAnswer → Bool) (hs : List HourAnswer) → all p hs ≡ eqb (count p hs) (length hs)
unfolding all count
all-count p [] = refl
all-count p (h ∷ hs) = go (p h) (all-count p hs)
  where
    go : (b : Bool) → all p hs ≡ eqb (count p hs) (length hs) → (b && all p hs) ≡ eqb (one b + count p hs) (suc (length hs))
    go true e = let z : suc (count p hs) ≡ 1 + count p hs = omega arith in e ∙ sym (eqb-suc-suc (count p hs) (length hs)) ∙ ap (λ (n : ℕ). eqb n (suc (length hs))) z
    go false e = sym (ne_eqb (0 + count p hs) (suc (length hs)) (λ q. omega (arith, count_most p hs)))

-- so a day's kind goes by two counts
kind-by-counts : (hs : List HourAnswer) → length hs ≡ 24 → kind_by (count is_measured hs) (count is_idle hs) ≡ kind_of hs
unfolding kind_by kind_of is_worked is_holiday
kind-by-counts hs n = rw (any-count is_measured hs, all-count is_idle hs, n)

-- all of them: the counts give the day
passed-day : (hs : List HourAnswer) (s : Seen) (k : ℕ) (kind : Kind) → Passed hs s k → 24 ≤ k → kind ≡ kind_by s.covered s.idle
    → ◌≡◌ {A = Day} (record { kind = kind; covered = s.covered; sum = s.sum }) (day_from hs)
unfolding day_from covered_of count total
passed-day hs s k kind p h e =
    let left : drop k hs ≡ [] = drop_of_length-le hs {i = k} (omega (arith, p.size)) in
    let sum : s.sum ≡ sums hs = omega (arith, p.sum, ap sums left) in
    let covered : s.covered ≡ count is_measured hs = omega (arith, p.covered, ap (count is_measured) left) in
    let none : s.idle ≡ count is_idle hs = omega (arith, p.idle, ap (count is_idle) left) in
    rw (e, sum, covered, none, kind-by-counts hs p.size)

-- ---- the same of a row

pub record Through (row : List Hour) (s : Seen) (k : ℕ) : Type 0 where
  passed : Passed (map says_hour row) s k

next-is : (row : List Hour) (s : Seen) (k : ℕ) (d : Hour) → Passed (map says_hour row) s k → k < 24 → get_or (map says_hour row) k missing ≡ says_hour (get_or row k d)
next-is row s k d p h =
    let n : length (map says_hour row) ≡ length row = simp length-map in
    at_map says_hour row k d missing (omega (arith, p.size))

pub through-none : (row : List Hour) (s : Seen) → length row ≡ 24 → s.sum ≡ 0 → s.covered ≡ 0 → s.idle ≡ 0 → Through row s 0
through-none row s h a b c = record { passed = passed_none (map says_hour row) s (rw length-map h) a b c }

pub through-room : (row : List Hour) (s : Seen) (k : ℕ) (d : Hour) → Through row s k → k < 24 → Each Whole (map says_hour row) → Room s (says_hour (get_or row k d))
through-room row s k d t h w = passed-room (map says_hour row) s k (says_hour (get_or row k d)) t.passed h w (next-is row s k d t.passed h)

pub through-more : (row : List Hour) (s n : Seen) (k : ℕ) (d : Hour) → Through row s k → k < 24 → n ≡ with_hour s (says_hour (get_or row k d)) → Through row n (k + 1)
through-more row s n k d t h e = record { passed = passed-more (map says_hour row) s n k (says_hour (get_or row k d)) t.passed h (next-is row s k d t.passed h) e }

pub through-day : (row : List Hour) (s : Seen) (k : ℕ) (kind : Kind) → Through row s k → 24 ≤ k → kind ≡ kind_by s.covered s.idle
    → ◌≡◌ {A = Day} (record { kind = kind; covered = s.covered; sum = s.sum }) (day_from (map says_hour row))
through-day row s k kind t h e = passed-day (map says_hour row) s k kind t.passed h e

-- ---- the days of a week

abbrev pub day_in : List Hour → Day
day_in row = day_from (map says_hour row)

each_row : (week : List (List Hour)) (k : ℕ) (d : List Hour) → Each (Each Whole) (says_hours week) → k < length week → Each Whole (map says_hour (get_or week k d))
unfolding says_hours
each_row [] k d a h = absurd (omega arith)
each_row (r ∷ rs) zero d a h = a.0
each_row (r ∷ rs) (suc k) d a h = each_row rs k d a.1 (omega arith)

pub row-whole : (week : List (List Hour)) (k : ℕ) (d : List Hour) (days : List Day) → Mapped day_in week 7 k days → k < 7 → Each (Each Whole) (says_hours week) → Each Whole (map says_hour (get_or week k d))
row-whole week k d days m h a = each_row week k d a (omega (arith, m.source))

pub days-in : (week : List (List Hour)) → map day_in week ≡ map day_from (says_hours week)
unfolding says_hours
days-in [] = refl
days-in (r ∷ rs) = ap (λ (l : List Day). day_in r ∷ l) (days-in rs)
