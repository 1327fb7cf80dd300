-- Samples in a list, and the list without one of them. Assumes nothing.
use Rattle.std.specs.Prelude.{◌≡◌, refl, Bool, true, false, List, [], ◌∷◌, ◌⊎◌, ℤ, ◌+ℤ◌, ◌-ℤ◌, length}
use Rattle.std.proofs.Common.{sym, ◌∙◌, subst, inl, inr}
use Rattle.std.proofs.Math.Path.{ap}
use Prim.Native.Nat.{suc}
use Rattle.std.proofs.Math.IntN.{+ℤ_assoc, +ℤ_comm}
use Rattle.std.specs.Int.Signed.{lt_z}
use Rattle.laws.specs.Pick.{pick-t, pick-f, pick-if, pick_all}
use Rattle.laws.specs.Whole.{true-false}
use Rattle.window.specs.Mean.{sum_of}
use Rattle.window.specs.Range.{Le, Each}
use Rattle.window.specs.Mean.{greater, lesser, largest, smallest, alike, without, left_of}
use Rattle.window.specs.Order.{le_refl, le_trans, le_antisym, alike-eq, alike_self, less-first, greater-left, greater-right, lesser-left, lesser-right}

-- x is one of the samples
unfoldable pub In : ℤ → List ℤ → Type 0
In x [] = ⊥
In x (y ∷ ys) = (x ≡ y) ⊎ In x ys

-- each is at most m, at least m
unfoldable pub Below : ℤ → List ℤ → Type 0
Below m [] = Unit
Below m (x ∷ xs) = Le x m × Below m xs

unfoldable pub Above : ℤ → List ℤ → Type 0
Above m [] = Unit
Above m (x ∷ xs) = Le m x × Above m xs

-- ---- the largest and the smallest

greater-in : (a b : ℤ) (xs : List ℤ) → In (greater a b) (a ∷ b ∷ xs)
unfolding greater In
greater-in a b xs = pick-if (λ (z : ℤ). In z (a ∷ b ∷ xs)) (lt_z a b) (λ e. inr (inl refl)) (λ e. inl refl)

lesser-in : (a b : ℤ) (xs : List ℤ) → In (lesser a b) (a ∷ b ∷ xs)
unfolding lesser In
lesser-in a b xs = pick-if (λ (z : ℤ). In z (a ∷ b ∷ xs)) (lt_z b a) (λ e. inr (inl refl)) (λ e. inl refl)

-- what stands among c and xs stands among a, b and xs, where c does
widen : (z c a b : ℤ) (xs : List ℤ) → In c (a ∷ b ∷ xs) → In z (c ∷ xs) → In z (a ∷ b ∷ xs)
unfolding In
widen z c a b xs i (inl e) = subst (λ (q : ℤ). In q (a ∷ b ∷ xs)) (sym e) i
widen z c a b xs i (inr j) = inr (inr j)

pub largest-in : (x : ℤ) (xs : List ℤ) → In (largest x xs) (x ∷ xs)
unfolding largest In
largest-in x [] = inl refl
largest-in x (y ∷ ys) = widen (largest (greater x y) ys) (greater x y) x y ys (greater-in x y ys) (largest-in (greater x y) ys)

pub smallest-in : (x : ℤ) (xs : List ℤ) → In (smallest x xs) (x ∷ xs)
unfolding smallest In
smallest-in x [] = inl refl
smallest-in x (y ∷ ys) = widen (smallest (lesser x y) ys) (lesser x y) x y ys (lesser-in x y ys) (smallest-in (lesser x y) ys)

pub largest-below : (x : ℤ) (xs : List ℤ) → Below (largest x xs) (x ∷ xs)
unfolding largest Below
largest-below x [] = (le_refl x, tt)
largest-below x (y ∷ ys) =
    let b = largest-below (greater x y) ys in
    (le_trans _ _ _ (greater-left x y) b.0, (le_trans _ _ _ (greater-right x y) b.0, b.1))

pub smallest-above : (x : ℤ) (xs : List ℤ) → Above (smallest x xs) (x ∷ xs)
unfolding smallest Above
smallest-above x [] = (le_refl x, tt)
smallest-above x (y ∷ ys) =
    let b = smallest-above (lesser x y) ys in
    (le_trans _ _ _ b.0 (lesser-left x y), (le_trans _ _ _ b.0 (lesser-right x y), b.1))

pub below_at : (m z : ℤ) (xs : List ℤ) → Below m xs → In z xs → Le z m
unfolding Below In
below_at m z [] b i = absurd i
below_at m z (x ∷ xs) b (inl e) = rw e b.0
below_at m z (x ∷ xs) b (inr i) = below_at m z xs b.1 i

pub above_at : (m z : ℤ) (xs : List ℤ) → Above m xs → In z xs → Le m z
unfolding Above In
above_at m z [] b i = absurd i
above_at m z (x ∷ xs) b (inl e) = rw e b.0
above_at m z (x ∷ xs) b (inr i) = above_at m z xs b.1 i

-- ---- the samples without one

module _ (x y : ℤ) (ys : List ℤ) where
  pub without-alike : alike x y ≡ true → without x (y ∷ ys) ≡ ys
  unfolding without
  without-alike e = pick-t (alike x y) ys (y ∷ without x ys) e

  pub without_other : alike x y ≡ false → without x (y ∷ ys) ≡ y ∷ without x ys
  unfolding without
  without_other e = pick-f (alike x y) ys (y ∷ without x ys) e

-- a test is true or false
pub by-test : {X : Type 0} (b : Bool) → (b ≡ true → X) → (b ≡ false → X) → X
by-test true f g = f refl
by-test false f g = g refl

-- where the test fails the two differ
differ : {X : Type 0} (x y : ℤ) → alike x y ≡ false → x ≡ y → X
differ x y e p = true-false (sym (alike_self y) ∙ (rw p at e))

further : (x y : ℤ) (ys : List ℤ) → alike x y ≡ false → In x (y ∷ ys) → In x ys
unfolding In
further x y ys e (inl p) = differ x y e p
further x y ys e (inr i) = i

pub without-sum : (x : ℤ) (xs : List ℤ) → In x xs → sum_of xs ≡ x +ℤ sum_of (without x xs)
unfolding In sum_of
without-sum x [] i = absurd i
without-sum x (y ∷ ys) i =
    by-test
    (alike x y)
    (λ e. rw (without-alike x y ys e, alike-eq x y e) refl)
    (λ e.
    rw (without_other x y ys e, without-sum x ys (further x y ys e i))
    (sym (+ℤ_assoc y x (sum_of (without x ys)))
    ∙ ap (λ (z : ℤ). z +ℤ sum_of (without x ys)) (+ℤ_comm y x)
    ∙ +ℤ_assoc x y (sum_of (without x ys))))

pub without-length : (x : ℤ) (xs : List ℤ) → In x xs → length xs ≡ suc (length (without x xs))
unfolding In
without-length x [] i = absurd i
without-length x (y ∷ ys) i =
    by-test
    (alike x y)
    (λ e. rw (without-alike x y ys e) refl)
    (λ e. rw (without_other x y ys e) (ap suc (without-length x ys (further x y ys e i))))

pub each-without : (low high x : ℤ) (xs : List ℤ) → Each low high xs → Each low high (without x xs)
unfolding Each without
each-without low high x [] a = tt
each-without low high x (y ∷ ys) a =
    pick_all (λ (l : List ℤ). Each low high l) (alike x y) a.2 (a.0, a.1, each-without low high x ys a.2)

-- another sample stays
stays : (m a : ℤ) (xs : List ℤ) → alike m a ≡ false → In a xs → In a (without m xs)
unfolding In
stays m a [] d i = absurd i
stays m a (y ∷ ys) d (inl p) =
    by-test
    (alike m y)
    (λ e. true-false (sym e ∙ ap (alike m) (sym p) ∙ d))
    (λ e. rw (without_other m y ys e) (inl p))
stays m a (y ∷ ys) d (inr i) =
    by-test
    (alike m y)
    (λ e. rw (without-alike m y ys e) i)
    (λ e. rw (without_other m y ys e) (inr (stays m a ys d i)))

-- of two samples or more, a smallest is left when a largest is out
module _ (x y : ℤ) (ys : List ℤ) where
  abbrev all : List ℤ
  all = x ∷ y ∷ ys

  abbrev high : ℤ
  high = largest x (y ∷ ys)

  abbrev low : ℤ
  low = smallest x (y ∷ ys)

  equal-ends : high ≡ low → (x ≡ high) × (low ≡ y)
  unfolding Below Above
  equal-ends e =
      let b = largest-below x (y ∷ ys) in
      let a = smallest-above x (y ∷ ys) in
      (le_antisym x high b.0 (rw e a.0), le_antisym low y a.1.0 (rw (← e) b.1.0))

  smallest-stays : In low (without high all)
  unfolding In
  smallest-stays =
      by-test
      (alike high low)
      (λ e.
      let p = equal-ends (alike-eq high low e) in
      rw (without-alike high x (y ∷ ys) (ap (alike high) p.0 ∙ alike_self high)) (inl p.1))
      (λ e. stays high low all e (smallest-in x (y ∷ ys)))

  pub left-sum : sum_of (left_of all) ≡ sum_of all -ℤ high -ℤ low
  unfolding left_of
  left-sum =
      rw (without-sum high all (largest-in x (y ∷ ys)), less-first high (sum_of (without high all)), without-sum low (without high all) smallest-stays)
      (sym (less-first low (sum_of (without low (without high all)))))

  pub left-length : length all ≡ suc (suc (length (left_of all)))
  unfolding left_of
  left-length =
      without-length high all (largest-in x (y ∷ ys)) ∙ ap suc (without-length low (without high all) smallest-stays)

pub each_left : (low high : ℤ) (xs : List ℤ) → Each low high xs → Each low high (left_of xs)
unfolding left_of
each_left low high [] a = a
each_left low high (x ∷ xs) a = each-without low high (smallest x xs) _ (each-without low high (largest x xs) (x ∷ xs) a)
