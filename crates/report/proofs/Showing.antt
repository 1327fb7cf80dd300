-- From a tally to what is printed of its hour, and how long that is. Assumes nothing.
use mathlib.Core.Path.{◌≡◌, refl, sym, ap, ◌∙◌, subst}
use mathlib.Core.Bool.{Bool, true, false, not, ◌||◌}
use Prim.Native.Nat.{ℕ, ◌+◌, ◌^◌, ◌≤◌, ◌<◌}
use native.Mathlib.Omega.{arith}
use lib.Dec.{T, eqb}
use lib.ListN.{length}
use lib.Ieee.{Float, binary64, div, is_nan, in_unsigned, to_unsigned}
use borrow.Author.Tests.{eqb-false}
use Rattle.laws.specs.Pick.{pick}
use Rattle.laws.specs.Decimal.{decimal}
use Rattle.hourly.specs.Bounds.{measured-length, idle-length, missing-length}
use Rattle.hourly.specs.Hours.{measured, idle, missing, as_f64}
use Rattle.hourly.specs.Text.{row_text}
use Rattle.hourly.specs.Tally.{hour_from}
use Rattle.hourly.specs.Floats.{whole_back, mean-no-nan}
use Rattle.hourly.specs.declared.Tally.{Tally}
use Rattle.report.specs.Table.{Summed, shown_by, shown_of}

-- a measured hour has the figures of its tally, and a dose
record FromTally (t : Tally) (s m : Float) : Type 0 where
  sum : t.sum ≡ s
  mean : div binary64 t.sum (as_f64 t.doses) ≡ m
  some : 0 < t.doses

measured-from : (t : Tally) (s l m : Float) → measured s l m ≡ hour_from t → FromTally t s m
unfolding hour_from pick
measured-from t s l m e = go t.holed t.on (eqb t.doses 0) refl e
  where
    go : (hole on none : Bool) → eqb t.doses 0 ≡ none → measured s l m ≡ pick hole missing (pick on (pick none idle (measured t.sum (as_f64 t.largest) (div binary64 t.sum (as_f64 t.doses)))) missing) → FromTally t s m
    go true on none p e = let z : ◌≡◌ {A = ℕ} 0 1 = cc in absurd (omega arith)
    go false true true p e = let z : ◌≡◌ {A = ℕ} 0 1 = cc in absurd (omega arith)
    go false true false p e = record { sum = cc; mean = cc; some = omega (arith, eqb-false t.doses 0 p) }
    go false false none p e = let z : ◌≡◌ {A = ℕ} 0 1 = cc in absurd (omega arith)

-- a tally's sum goes back to a whole number, which a u64 holds
pub tally-whole : (t : Tally) → Summed t → T (in_unsigned binary64 64 t.sum) × (to_unsigned 64 t.sum ≤ 2 ^ 53)
tally-whole t w =
    let back = whole_back w.whole w.small in
    subst (λ (x : Float). T (in_unsigned binary64 64 x) × (to_unsigned 64 x ≤ 2 ^ 53)) (sym w.exact) (back.0, omega (arith, back.1, w.small))

-- and so does a measured hour's, and its mean is a number
pub sum-whole : (t : Tally) (s l m : Float) → Summed t → measured s l m ≡ hour_from t → T (in_unsigned binary64 64 s)
sum-whole t s l m w e = subst (λ (x : Float). T (in_unsigned binary64 64 x)) (measured-from t s l m e).sum (tally-whole t w).0

pub mean-number : (t : Tally) (s l m : Float) → Summed t → t.doses ≤ 2 ^ 53 → measured s l m ≡ hour_from t → T (not (is_nan m))
mean-number t s l m w d e =
    let f = measured-from t s l m e in
    subst (λ (x : Float). T (not (is_nan x))) (ap (λ (x : Float). div binary64 x (as_f64 t.doses)) (sym w.exact) ∙ f.mean) (mean-no-nan w.whole t.doses w.small d f.some)

-- in a hole, without an H or without a dose a row is its hour and 3 bytes, and else the digits of doses and sum and 22 bytes too
pub row-length : (h : ℕ) (t : Tally)
    → length (row_text h (shown_of t))
    ≡ pick t.holed (length (decimal h) + 3) (pick (not t.on || eqb t.doses 0) (length (decimal h) + 3) (length (decimal h) + 22 + length (decimal t.doses) + length (decimal (to_unsigned 64 t.sum))))
unfolding shown_of hour_from pick
row-length h t = go t.holed t.on (eqb t.doses 0)
  where
    go : (hole on none : Bool)
        → length (row_text h (shown_by (pick hole missing (pick on (pick none idle (measured t.sum (as_f64 t.largest) (div binary64 t.sum (as_f64 t.doses)))) missing)) t))
        ≡ pick hole (length (decimal h) + 3) (pick (not on || none) (length (decimal h) + 3) (length (decimal h) + 22 + length (decimal t.doses) + length (decimal (to_unsigned 64 t.sum))))
    go true on none = missing-length h
    go false true true = idle-length h
    go false true false = measured-length h _ _ _
    go false false none = missing-length h
