-- The figures of a measured hour: the sum and the largest amount are exact, the mean is one division, and each is a number. Assumes nothing.
use Rattle.std.specs.Prelude.{◌≡◌, refl, Bool, true, false, not, List, [], ◌∷◌, ℕ, ◌^◌, ◌≤◌, ◌<◌, T, length, Float}
use Rattle.std.proofs.Common.{arith}
use Rattle.std.specs.Float.{binary64}
use Rattle.std.specs.Float.Ieee.{div, of_int, is_nan}
use Rattle.std.specs.Float.Ieee.Exact.{HasValue}
use Rattle.std.specs.Float.Ieee.Back.{round_whole}
use Rattle.laws.specs.Pick.{pick}
use Rattle.paper.specs.Answer.{Answer, done, refused, fault, told}
use Rattle.journal.specs.Journal.{journal_of}
use Rattle.journal.specs.declared.Line.{Line}
use Rattle.holes.specs.Holes.{in_hole}
use Rattle.hourly.specs.declared.Products.{Products}
use Rattle.hourly.specs.Hours.{HourAnswer, measured, idle, missing, amounts_at, has_on, total, greatest, as_f64, sum_of, largest_of, mean_of, measured_or_idle, hour_of, ask_of}
use Rattle.hourly.specs.Accepted.{Accepted, accepted}
use Rattle.hourly.specs.Bounds.{modest}
use Rattle.hourly.specs.Floats.{whole-no-nan, mean-no-nan}

-- the first two exact, the mean one division of the sum by the number of doses
pub record Exact (amounts : List ℕ) (s l m : Float) : Type 0 where
  pub sum : HasValue s false (total amounts) 1
  pub largest : HasValue l false (greatest amounts) 1
  pub mean : m ≡ div binary64 s (as_f64 (length amounts))

whole-exact : (n : ℕ) → n ≤ 2 ^ 53 → HasValue (as_f64 n) false n 1
unfolding of_int as_f64
whole-exact n h = round_whole binary64 false n h

-- a measured hour has the figures of its amounts, and a dose
record Figured (amounts : List ℕ) (s l m : Float) : Type 0 where
  sum : s ≡ sum_of amounts
  largest : l ≡ largest_of amounts
  mean : m ≡ mean_of amounts
  some : 0 < length amounts

measured-figures : (w : Products) (ls : List Line) (h : ℕ) (s l m : Float) → hour_of w ls h ≡ measured s l m → Figured (amounts_at w h ls) s l m
unfolding hour_of measured_or_idle pick
measured-figures w ls h s l m = go (in_hole h ls) (has_on h ls) (amounts_at w h ls)
  where
    go : (hole on : Bool) (amounts : List ℕ) → pick hole missing (pick on (measured_or_idle amounts) missing) ≡ measured s l m → Figured amounts s l m
    go true on amounts e = let z : ◌≡◌ {A = ℕ} 0 1 = cc in absurd (omega arith)
    go false true [] e = let z : ◌≡◌ {A = ℕ} 0 1 = cc in absurd (omega arith)
    go false true (a ∷ as') e = record { sum = cc; largest = cc; mean = cc; some = omega arith }
    go false false amounts e = let z : ◌≡◌ {A = ℕ} 0 1 = cc in absurd (omega arith)

-- so it is of every measured hour of an accepted journal
pub figures-exact : (w : Products) {b : List ℕ} (ls : List Line) (h : ℕ) (s l m : Float) → Accepted b ls → hour_of w ls h ≡ measured s l m → Exact (amounts_at w h ls) s l m
unfolding sum_of largest_of mean_of
figures-exact w ls h s l m a e =
    let b = modest w h ls a.ranged in
    let lines = a.few in
    let f = measured-figures w ls h s l m e in
    rw (f.sum, f.largest, f.mean)
    (record {
      sum = whole-exact (total (amounts_at w h ls)) (omega (arith, b.sum));
      largest = whole-exact (greatest (amounts_at w h ls)) (omega (arith, b.most));
      mean = refl;
    })

-- no figure is a NaN
pub record Numbers (s l m : Float) : Type 0 where
  pub sum : T (not (is_nan s))
  pub largest : T (not (is_nan l))
  pub mean : T (not (is_nan m))

-- so it is of every measured hour of an accepted journal
pub figures-numbers : (w : Products) {b : List ℕ} (ls : List Line) (h : ℕ) (s l m : Float) → Accepted b ls → hour_of w ls h ≡ measured s l m → Numbers s l m
unfolding sum_of largest_of mean_of
figures-numbers w ls h s l m a e =
    let b = modest w h ls a.ranged in
    let lines = a.few in
    let f = measured-figures w ls h s l m e in
    rw (f.sum, f.largest, f.mean)
    (record {
      sum = whole-no-nan (total (amounts_at w h ls));
      largest = whole-no-nan (greatest (amounts_at w h ls));
      mean = mean-no-nan (total (amounts_at w h ls)) (length (amounts_at w h ls)) (omega (arith, b.sum)) (omega (arith, b.few)) f.some;
    })

-- an hour that is answered with figures is answered with numbers
abbrev pub Numbered : Answer HourAnswer → Type 0
Numbered (done (measured s l m)) = Numbers s l m
Numbered (done idle) = Unit {0}
Numbered (done missing) = Unit {0}
Numbered (refused n vs) = Unit {0}
Numbered (fault n vs) = Unit {0}

pub ask-numbered : (w : Products) (b : List ℕ) (h : ℕ) → Numbered (ask_of w b h)
unfolding ask_of told
ask-numbered w b h = go (journal_of b) refl
  where
    kind : (ls : List Line) (x : HourAnswer) → journal_of b ≡ done ls → hour_of w ls h ≡ x → Numbered (done x)
    kind ls (measured s l m) a e = figures-numbers w ls h s l m (accepted b ls a) e
    kind ls idle a e = tt
    kind ls missing a e = tt

    go : (a : Answer (List Line)) → journal_of b ≡ a → Numbered (told (λ (ls : List Line). hour_of w ls h) a)
    go (done ls) e = kind ls (hour_of w ls h) e refl
    go (refused n vs) e = tt
    go (fault n vs) e = tt
