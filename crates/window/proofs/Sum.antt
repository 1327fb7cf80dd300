-- Sums of the first samples of a list. Assumes nothing.
use mathlib.Core.Path.{◌≡◌, refl, sym, ap, ◌∙◌}
use mathlib.Core.List.{List, [], ◌∷◌}
use Prim.Native.Nat.{ℕ, zero, suc, ◌+◌, ◌*◌, ◌≤◌, ◌<◌, ◌^◌, min}
use native.Mathlib.Omega.{arith}
use native.Mathlib.Nat.{zero-min, min-zero, suc-min-suc}
use lib.IntN.{ℤ, pos, negsuc, ◌+ℤ◌, nat_abs, +ℤ_idr, +ℤ_idl, +ℤ_assoc}
use lib.ListN.{length, take, get_or, length-take}
use lib.Seq.{take-nil, take-take}
use lib.Signed.{mag}
use native.Mathlib.Numerals.{add-one}
use mir.Syntax.{w32, w64}
use mir.Val.{to_z, of_z, SFits}
use mir.Facts.{to_z-of_z, sfits_widen}
use Rattle.laws.specs.Whole.{fits64}
use Rattle.window.specs.Mean.{sum_of}
use Rattle.window.specs.Window.{places, held_of}
use Rattle.window.specs.Range.{Le, Between, Each, AllI32, Within, Total}
use Rattle.window.specs.Pass.{within-sum}

-- past the end the element is 0, so no bound on i is asked
sum-take : (xs : List ℤ) (i : ℕ) → sum_of (take (suc i) xs) ≡ sum_of (take i xs) +ℤ get_or xs i (pos 0)
unfolding sum_of
sum-take [] zero = refl
sum-take [] (suc i) = refl
sum-take (x ∷ xs) zero = +ℤ_idr x ∙ sym (+ℤ_idl x)
sum-take (x ∷ xs) (suc i) = ap (λ (z : ℤ). x +ℤ z) (sum-take xs i) ∙ sym (+ℤ_assoc x (sum_of (take i xs)) (get_or xs i (pos 0)))

i32-le : (z : ℤ) → mag z < 2 ^ 31 → Between (negsuc 2147483647) (pos 2147483647) z
unfolding Le
i32-le (pos m) h = (tt, omega arith)
i32-le (negsuc m) h = (omega arith, tt)

pub all_take : (xs : List ℤ) (i : ℕ) → AllI32 (take i xs) → mag (get_or xs i (pos 0)) < 2 ^ 31 → AllI32 (take (suc i) xs)
unfolding Each
all_take [] i a h = tt
all_take (x ∷ xs) zero a h = let b = i32-le x h in (b.0, b.1, tt)
all_take (x ∷ xs) (suc i) a h = (a.0, a.1, all_take xs i a.2 h)

-- nothing is added yet
pub total-none : Total [] (pos 0)
unfolding sum_of Each
total-none = record { adds = refl; all = tt }

-- one element more
total-more : (xs : List ℤ) (i : ℕ) (s : ℤ) → Total (take i xs) s → mag (get_or xs i (pos 0)) < 2 ^ 31 → Total (take (suc i) xs) (s +ℤ get_or xs i (pos 0))
total-more xs i s t h = record { adds = rw t.adds (sym (sum-take xs i)); all = all_take xs i t.all h }

i32-size : (z : ℤ) → Le (negsuc 2147483647) z → Le z (pos 2147483647) → nat_abs z ≤ 2147483648
unfolding Le
i32-size (pos m) h k = omega arith
i32-size (negsuc m) h k = omega arith

i32-within : (xs : List ℤ) → AllI32 xs → Within 2147483648 xs
unfolding Each Within
i32-within [] a = tt
i32-within (x ∷ xs) a = (i32-size x a.0 a.1, i32-within xs a.2)

pub total_size : (xs : List ℤ) (s : ℤ) → Total xs s → nat_abs s ≤ length xs * 2147483648
total_size xs s t = rw t.adds (within-sum 2147483648 xs (i32-within xs t.all))

take-least : (n h : ℕ) (xs : List ℤ) → take n (take h xs) ≡ take (min n (min h (length xs))) xs
take-least zero h xs = rw zero-min
take-least (suc n) zero xs = rw (zero-min, min-zero)
take-least (suc n) (suc h) [] = sym (take-nil (min (suc n) (min (suc h) 0)))
take-least (suc n) (suc h) (x ∷ xs) = rw (suc-min-suc, suc-min-suc) (ap (λ (t : List ℤ). x ∷ t) (take-least n h xs))

-- the first of the samples lent that are held
pub lent : (s : List ℤ) (held n : ℕ) → take n (held_of s held) ≡ take (min (min (min n held) (length s)) places) s
unfolding held_of
lent s held n =
    let e : min n (min held (length (take places s))) ≡ min (min (min n held) (length s)) places = rw (length-take places s) (omega arith) in
    take-least n held (take places s)
    ∙ ap (λ (i : ℕ). take i (take places s)) e
    ∙ take-take (min (min (min n held) (length s)) places) places s (omega arith)

-- the sum with the sample read
module _ (xs : List ℤ) (k : ℕ) (s : ℤ) (t : Total (take k xs) s) (most : length xs ≤ places) (narrow : SFits w32 (get_or xs k (pos 0))) where
  wide : SFits w64 (get_or xs k (pos 0))
  wide = sfits_widen tt narrow

  more : Total (take (k + 1) xs) (s +ℤ get_or xs k (pos 0))
  more = rw add-one (total-more xs k s t narrow.sfits)

  fits : SFits w64 (s +ℤ get_or xs k (pos 0))
  fits = fits64 _ (omega (arith, total_size (take (k + 1) xs) (s +ℤ get_or xs k (pos 0)) more, length-take (k + 1) xs))

  pub sum-fits : SFits w64 (s +ℤ to_z w64 (of_z w64 (to_z w32 (of_z w32 (get_or xs k (pos 0))))))
  sum-fits = rw (to_z-of_z narrow, to_z-of_z wide) fits

  pub sum-more : Total (take (k + 1) xs) (to_z w64 (of_z w64 (s +ℤ to_z w64 (of_z w64 (to_z w32 (of_z w32 (get_or xs k (pos 0))))))))
  sum-more = rw (to_z-of_z narrow, to_z-of_z wide, to_z-of_z fits) more
