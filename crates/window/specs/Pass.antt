-- What one pass over samples tells: their sum by its remainder, the largest and the smallest; and that the mean asks no more. Assumes nothing.
use Rattle.std.specs.Prelude.{◌≡◌, refl, Bool, true, false, cond, List, [], ◌∷◌, ℕ, suc, ◌+◌, ◌*◌, ◌-◌, ◌%◌, ◌≤◌, ◌<◌, ltb, ℤ, pos, negsuc, ◌+ℤ◌, ◌-ℤ◌, nat_abs, length}
use Rattle.std.proofs.Common.{sym, ◌∙◌, arith, suc-mul, lt-ltb, le-ltb, ltb-true, ltb-false}
use Rattle.std.proofs.Math.Path.{ap}
use Rattle.std.specs.Int.Signed.{lt_z}
use Rattle.laws.specs.Pick.{pick, pick-t, pick-f}
use Rattle.laws.specs.Whole.{abs-add}
use Rattle.window.specs.declared.Seen.{Seen}
use Rattle.window.specs.Mean.{sum_of, round_away, greater, lesser, largest, smallest, mean_of}
use Rattle.window.specs.Range.{Le, Each, AllI32, Within}
use Rattle.window.specs.Order.{le_refl, le_antisym, greater-left, greater-least, lesser-left, lesser-most}
use Rattle.window.specs.Left.{Below, Above, largest-below, smallest-above, by-test}
use Rattle.window.specs.MeanLaws.{mean-few, mean-many}

-- ---- the pass

-- a number from 0 on that leaves x's remainder by 2 ^ 32
unfoldable pub lifted : ℤ → ℕ
lifted (pos m) = 4294967296 + m
lifted (negsuc m) = 4294967296 - suc m

-- before the pass, with x as the largest and the smallest
unfoldable pub start_of : ℤ → Seen
start_of x = record { sum = 0; high = x; low = x }

-- one sample more
unfoldable pub with_of : Seen → ℤ → Seen
with_of t x = record { sum = (t.sum + lifted x) % 4294967296; high = greater t.high x; low = lesser t.low x }

-- the samples seen one after the other
unfoldable pub passed : Seen → List ℤ → Seen
passed t [] = t
passed t (x ∷ xs) = passed (with_of t x) xs

-- r is what was seen with the samples xs seen too, and they are i32s
pub record Passed (t : Seen) (xs : List ℤ) (r : Seen) : Type 0 where
  pub told : r ≡ passed t xs
  pub all : AllI32 xs

-- the whole number of an i32's bits
unfoldable pub signed_of : ℕ → ℤ
signed_of n = pick (ltb n 2147483648) (pos n) (negsuc (4294967295 - n))

-- what is divided, and by how many, of n samples: with four or more the largest and the smallest are left out
unfoldable pub left_sum : Seen → ℤ → ℕ → ℤ
left_sum t s n = pick (ltb n 4) s (s -ℤ t.high -ℤ t.low)

unfoldable pub left_count : ℕ → ℕ
left_count n = pick (ltb n 4) n (n - 2)

-- ---- the largest and the smallest

passed-high : (t : Seen) (xs : List ℤ) → (passed t xs).high ≡ largest t.high xs
unfolding passed with_of largest
passed-high t [] = refl
passed-high t (x ∷ xs) = passed-high (with_of t x) xs

passed-low : (t : Seen) (xs : List ℤ) → (passed t xs).low ≡ smallest t.low xs
unfolding passed with_of smallest
passed-low t [] = refl
passed-low t (x ∷ xs) = passed-low (with_of t x) xs

module _ (x : ℤ) (xs : List ℤ) where
  abbrev seen : Seen
  seen = passed (start_of x) (x ∷ xs)

  -- the first sample, seen again, changes neither
  pub seen-high : seen.high ≡ largest x xs
  unfolding start_of largest
  seen-high =
      passed-high (start_of x) (x ∷ xs)
      ∙ ap (λ (z : ℤ). largest z xs) (le_antisym _ _ (greater-least x x x (le_refl x) (le_refl x)) (greater-left x x))

  pub seen_low : seen.low ≡ smallest x xs
  unfolding start_of smallest
  seen_low =
      passed-low (start_of x) (x ∷ xs)
      ∙ ap (λ (z : ℤ). smallest z xs) (le_antisym _ _ (lesser-left x x) (lesser-most x x x (le_refl x) (le_refl x)))

  -- the mean, from the sum, the largest and the smallest
  pub seen-mean : round_away (left_sum seen (sum_of (x ∷ xs)) (length (x ∷ xs))) (left_count (length (x ∷ xs))) ≡ mean_of (x ∷ xs)
  unfolding left_sum left_count
  seen-mean =
      by-test
      (ltb (length (x ∷ xs)) 4)
      (λ t. rw (pick-t _ _ _ t, pick-t _ _ _ t) (sym (mean-few (x ∷ xs) (omega arith) (ltb-true (length (x ∷ xs)) 4 t))))
      (λ t.
      rw (pick-f _ _ _ t, pick-f _ _ _ t, seen-high, seen_low)
      (sym (mean-many x xs (ltb-false (length (x ∷ xs)) 4 t))))

-- ---- the sum

-- t is z and n times 2 ^ 32
unfoldable Lifts : ℕ → ℕ → ℤ → Type 0
Lifts t n (pos m) = t ≡ m + n * 4294967296
Lifts t n (negsuc m) = t + suc m ≡ n * 4294967296

lifts-mixed : (b : Bool) (t n a m : ℕ) → ltb a (suc m) ≡ b → t + suc m ≡ n * 4294967296 + a → Lifts t n (cond b (negsuc (suc m - suc a)) (pos (a - suc m)))
unfolding Lifts
lifts-mixed true t n a m e h = omega (arith, ltb-true a (suc m) e)
lifts-mixed false t n a m e h = omega (arith, ltb-false a (suc m) e)

-- one number more
lifts-more : (t n : ℕ) (x z : ℤ) → Le (negsuc 2147483647) x → Lifts t n z → Lifts (lifted x + t) (suc n) (x +ℤ z)
unfolding Lifts lifted Le
lifts-more t n (pos a) (pos m) l h = omega arith
lifts-more t n (pos a) (negsuc m) l h = lifts-mixed (ltb a (suc m)) _ (suc n) a m refl (omega arith)
lifts-more t n (negsuc a) (pos m) l h = lifts-mixed (ltb m (suc a)) _ (suc n) m a refl (omega arith)
lifts-more t n (negsuc a) (negsuc m) l h = omega arith

unfoldable lifted_sum : List ℤ → ℕ
lifted_sum [] = 0
lifted_sum (x ∷ xs) = lifted x + lifted_sum xs

lifts-sum : (xs : List ℤ) → AllI32 xs → Lifts (lifted_sum xs) (length xs) (sum_of xs)
unfolding Each sum_of Lifts lifted_sum
lifts-sum [] a = omega arith
lifts-sum (x ∷ xs) a = lifts-more (lifted_sum xs) (length xs) x (sum_of xs) a.0 (lifts-sum xs a.2)

passed-sum : (t : Seen) (xs : List ℤ) → t.sum < 4294967296 → (passed t xs).sum ≡ (t.sum + lifted_sum xs) % 4294967296
unfolding passed with_of lifted_sum
passed-sum t [] h = omega arith
passed-sum t (x ∷ xs) h =
    passed-sum (with_of t x) xs (omega arith)
    ∙ (omega arith)

start-sum : (x : ℤ) (xs : List ℤ) → (passed (start_of x) xs).sum ≡ lifted_sum xs % 4294967296
unfolding start_of
start-sum x xs = omega (arith, passed-sum (start_of x) xs (omega arith))

signed-pos : (n : ℕ) → n < 2147483648 → signed_of n ≡ pos n
unfolding signed_of
signed-pos n h = pick-t _ _ _ (lt-ltb n 2147483648 h)

signed-neg : (n : ℕ) → 2147483648 ≤ n → signed_of n ≡ negsuc (4294967295 - n)
unfolding signed_of
signed-neg n h = pick-f _ _ _ (le-ltb n 2147483648 h)

-- a sum that an i32 holds is read back from its remainder
read_back : (t n : ℕ) (z : ℤ) → 0 < n → nat_abs z < 2147483648 → Lifts t n z → signed_of (t % 4294967296) ≡ z
unfolding Lifts
read_back t n (pos m) h k l = let e : t % 4294967296 ≡ m = omega arith in rw e (signed-pos m (omega arith))
read_back t n (negsuc m) h k l =
    let e : t % 4294967296 ≡ 4294967295 - m = omega arith in
    rw e (signed-neg (4294967295 - m) (omega arith) ∙ ap negsuc (omega arith))

-- the sum of samples within b
pub within-sum : (b : ℕ) (xs : List ℤ) → Within b xs → nat_abs (sum_of xs) ≤ length xs * b
unfolding Within sum_of
within-sum b [] w = omega arith
within-sum b (x ∷ xs) w = omega (arith, abs-add x (sum_of xs), w.0, within-sum b xs w.1, suc-mul (length xs) b)

-- the largest below 2 ^ 24 and the smallest above -2 ^ 24
close : (high low x : ℤ) → lt_z high (pos 16777216) ≡ true → lt_z (negsuc 16777215) low ≡ true → Le x high → Le low x → nat_abs x ≤ 16777215
unfolding Le
close (pos h) low (pos m) s t a b = omega (arith, ltb-true h 16777216 s)
close (negsuc h) low (pos m) s t a b = absurd a
close high (pos l) (negsuc m) s t a b = absurd b
close high (negsuc l) (negsuc m) s t a b = omega (arith, ltb-true l 16777215 t)

all-close : (high low : ℤ) (xs : List ℤ) → lt_z high (pos 16777216) ≡ true → lt_z (negsuc 16777215) low ≡ true → Below high xs → Above low xs → Within 16777215 xs
unfolding Below Above Within
all-close high low [] s t b a = tt
all-close high low (x ∷ xs) s t b a = (close high low x s t b.0 a.0, all-close high low xs s t b.1 a.1)

-- of at most 128 samples, the largest below 2 ^ 24 and the smallest above -2 ^ 24, the pass tells the sum
pub seen-sum : (x : ℤ) (xs : List ℤ) → AllI32 (x ∷ xs) → length (x ∷ xs) ≤ 128 → lt_z (seen x xs).high (pos 16777216) ≡ true → lt_z (negsuc 16777215) (seen x xs).low ≡ true → signed_of (seen x xs).sum ≡ sum_of (x ∷ xs)
seen-sum x xs all most s t =
    let w : Within 16777215 (x ∷ xs) =
    all-close (largest x xs) (smallest x xs) (x ∷ xs) (rw (seen-high x xs) at s) (rw (seen_low x xs) at t) (largest-below x xs) (smallest-above x xs) in
    let e : (seen x xs).sum ≡ lifted_sum (x ∷ xs) % 4294967296 = start-sum x (x ∷ xs) in
    ap signed_of e
    ∙ read_back (lifted_sum (x ∷ xs)) (length (x ∷ xs)) (sum_of (x ∷ xs)) (omega arith) (omega (arith, within-sum 16777215 (x ∷ xs) w)) (lifts-sum (x ∷ xs) all)
