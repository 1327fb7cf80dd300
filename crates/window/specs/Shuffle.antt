-- The mean does not depend on the samples' order. Assumes nothing.
use Rattle.std.specs.Prelude.{◌≡◌, refl, List, [], ◌∷◌, ℕ, suc, ◌≤◌, ltb, ℤ, ◌+ℤ◌, length, replicate}
use Rattle.std.proofs.Common.{sym, ap, ◌∙◌, inl, inr, arith, ltb-true, ltb-false}
use Rattle.std.proofs.Math.IntN.{+ℤ_assoc, +ℤ_comm}
use Rattle.window.specs.Mean.{sum_of}
use Rattle.window.specs.Mean.{largest, smallest, mean_of}
use Rattle.window.specs.Order.{le_antisym}
use Rattle.window.specs.Left.{In, by-test, largest-in, smallest-in, largest-below, smallest-above, below_at, above_at}
use Rattle.window.specs.MeanLaws.{mean-few, mean-many, wild-equal}

-- the same samples in another order: neighbours swapped, again and again
pub data Shuffled : List ℤ → List ℤ → Type 0 where
  none : Shuffled [] []
  keep : {x : ℤ} {xs ys : List ℤ} → Shuffled xs ys → Shuffled (x ∷ xs) (x ∷ ys)
  swap : {x y : ℤ} {xs : List ℤ} → Shuffled (x ∷ y ∷ xs) (y ∷ x ∷ xs)
  then : {xs ys zs : List ℤ} → Shuffled xs ys → Shuffled ys zs → Shuffled xs zs

shuffled-length : {xs ys : List ℤ} → Shuffled xs ys → length xs ≡ length ys
shuffled-length none = refl
shuffled-length (keep p) = ap suc (shuffled-length p)
shuffled-length swap = refl
shuffled-length (then p q) = shuffled-length p ∙ shuffled-length q

shuffled-sum : {xs ys : List ℤ} → Shuffled xs ys → sum_of xs ≡ sum_of ys
unfolding sum_of
shuffled-sum none = refl
shuffled-sum (keep {x = x} p) = ap (λ (z : ℤ). x +ℤ z) (shuffled-sum p)
shuffled-sum (swap {x = x} {y = y} {xs = xs}) =
    sym (+ℤ_assoc x y (sum_of xs)) ∙ ap (λ (z : ℤ). z +ℤ sum_of xs) (+ℤ_comm x y) ∙ +ℤ_assoc y x (sum_of xs)
shuffled-sum (then p q) = shuffled-sum p ∙ shuffled-sum q

shuffled-in : {xs ys : List ℤ} (z : ℤ) → Shuffled xs ys → In z xs → In z ys
unfolding In
shuffled-in z none i = i
shuffled-in z (keep p) (inl e) = inl e
shuffled-in z (keep p) (inr i) = inr (shuffled-in z p i)
shuffled-in z swap (inl e) = inr (inl e)
shuffled-in z swap (inr (inl e)) = inl e
shuffled-in z swap (inr (inr i)) = inr (inr i)
shuffled-in z (then p q) i = shuffled-in z q (shuffled-in z p i)

back : {xs ys : List ℤ} → Shuffled xs ys → Shuffled ys xs
back none = none
back (keep p) = keep (back p)
back swap = swap
back (then p q) = then (back q) (back p)

module _ (x y : ℤ) (xs ys : List ℤ) (p : Shuffled (x ∷ xs) (y ∷ ys)) where
  same-largest : largest x xs ≡ largest y ys
  same-largest =
      le_antisym
      _
      _
      (below_at _ _ (y ∷ ys) (largest-below y ys) (shuffled-in (largest x xs) p (largest-in x xs)))
      (below_at _ _ (x ∷ xs) (largest-below x xs) (shuffled-in (largest y ys) (back p) (largest-in y ys)))

  same-smallest : smallest x xs ≡ smallest y ys
  same-smallest =
      le_antisym
      _
      _
      (above_at _ _ (x ∷ xs) (smallest-above x xs) (shuffled-in (smallest y ys) (back p) (smallest-in y ys)))
      (above_at _ _ (y ∷ ys) (smallest-above y ys) (shuffled-in (smallest x xs) p (smallest-in x xs)))

  shuffled-some : mean_of (x ∷ xs) ≡ mean_of (y ∷ ys)
  shuffled-some =
      let e = shuffled-length p in
      by-test
      (ltb (length (x ∷ xs)) 4)
      (λ t.
      let h = ltb-true (length (x ∷ xs)) 4 t in
      mean-few (x ∷ xs) (omega arith) h
      ∙ rw (shuffled-sum p, e) (sym (mean-few (y ∷ ys) (omega arith) (omega arith))))
      (λ t.
      let h = ltb-false (length (x ∷ xs)) 4 t in
      mean-many x xs h
      ∙ rw (shuffled-sum p, e, same-largest, same-smallest) (sym (mean-many y ys (omega arith))))

-- the order of the samples does not matter
pub mean-shuffled : (xs ys : List ℤ) → Shuffled xs ys → mean_of xs ≡ mean_of ys
mean-shuffled [] [] p = refl
mean-shuffled [] (y ∷ ys) p = absurd (omega (arith, shuffled-length p))
mean-shuffled (x ∷ xs) [] p = absurd (omega (arith, shuffled-length p))
mean-shuffled (x ∷ xs) (y ∷ ys) p = shuffled-some x y xs ys p

-- one wild sample, wherever it stands among equal ones, does not move the mean
pub wild-anywhere : (v w : ℤ) (n : ℕ) (xs : List ℤ) → 3 ≤ n → Shuffled xs (w ∷ replicate n v) → mean_of xs ≡ v
wild-anywhere v w n xs h p = mean-shuffled xs (w ∷ replicate n v) p ∙ wild-equal v w n h
