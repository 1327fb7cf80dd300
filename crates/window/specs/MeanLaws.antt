-- What follows from the definitions: where a mean lies, that one wild sample or another order does not move it, and that a pass tells all that is asked. Assumes nothing.
use Rattle.std.specs.Prelude.{◌≡◌, refl, List, [], ◌∷◌, ltb, ℤ, pos, negsuc, ◌-ℤ◌, neg_ℤ, nat_abs, length, replicate}
use Rattle.std.proofs.Common.{ap, ◌∙◌, arith, div-lt_iff_lt-mul, le-div_iff_mul-le, lt-ltb, le-ltb, ltb-false, SFits}
use Prim.Native.Nat.{ℕ, zero, suc, ◌*◌, ◌-◌, ◌≤◌, ◌<◌}
use Rattle.std.proofs.Math.Nat.{suc-mul}
use Rattle.std.proofs.Math.IntN.{+ℤ_idr}
use Rattle.std.proofs.lemmas.List.{length-replicate}
use Rattle.std.specs.Int.Signed.{lt_z}
use Rattle.std.specs.Int.{w32}
use Rattle.laws.specs.Pick.{pick, pick-t, pick-f, pick_all}
use Rattle.window.specs.Range.{Le, Between, Each, AllI32, Within}
use Rattle.window.specs.Mean.{sum_of, half_up, round_away, plain_of, greater, lesser, largest, smallest, alike, without, left_of, averaged_of, mean_of}
use Rattle.window.specs.Order.{le_refl, le_trans, le_antisym, lt-le, not-lt-le, alike_self, le-add, greater-left, lesser-left, greater-least, lesser-most}
use Rattle.window.specs.Left.{Below, Above, largest-below, smallest-above, without-alike, without_other, each-without, left-sum, left-length, each_left, by-test}

-- ---- where a mean lies

near_le : (m n most : ℕ) → 0 < n → m ≤ n * most → half_up m n ≤ most
unfolding half_up
near_le m n most h k =
    let p : 0 < 2 * n = omega arith in
    let q : half_up m n < suc most = (div-lt_iff_lt-mul p).1 (omega arith) in
    omega arith

near-ge : (m n least : ℕ) → 0 < n → n * least ≤ m → least ≤ half_up m n
unfolding half_up
near-ge m n least h k =
    let p : 0 < 2 * n = omega arith in
    (le-div_iff_mul-le p).1 (omega arith)

-- n times v
many-pos : (n h : ℕ) → sum_of (replicate n (pos h)) ≡ pos (n * h)
unfolding sum_of
many-pos zero h = ap pos (omega arith)
many-pos (suc n) h = rw (many-pos n h) (ap pos (omega (arith, suc-mul n h)))

many-neg : (n h : ℕ) → sum_of (replicate (suc n) (negsuc h)) ≡ negsuc (suc n * suc h - 1)
unfolding sum_of
many-neg zero h = +ℤ_idr (negsuc h) ∙ ap negsuc (omega arith)
many-neg (suc n) h = rw (many-neg n h) (ap negsuc (omega (arith, suc-mul (suc n) (suc h), suc-mul n (suc h))))

neg-le : (k h : ℕ) → Le (neg_ℤ (pos k)) (pos h)
unfolding Le
neg-le zero h = omega arith
neg-le (suc k) h = tt

neg-down : (k h : ℕ) → suc h ≤ k → Le (neg_ℤ (pos k)) (negsuc h)
unfolding Le
neg-down zero h l = absurd (omega arith)
neg-down (suc k) h l = omega arith

neg-up : (k h : ℕ) → k ≤ suc h → Le (negsuc h) (neg_ℤ (pos k))
unfolding Le
neg-up zero h l = tt
neg-up (suc k) h l = omega arith

-- a sum of at most n times v, rounded, is at most v; of at least n times v, at least v
module _ (n : ℕ) where
  round-le : (v s : ℤ) → Le s (sum_of (replicate (suc n) v)) → Le (round_away s (suc n)) v
  unfolding Le round_away
  round-le (pos h) (pos m) l = near_le m (suc n) h (omega arith) (rw (many-pos (suc n) h) at l)
  round-le (pos h) (negsuc m) l = neg-le (half_up (suc m) (suc n)) h
  round-le (negsuc h) (pos m) l = absurd (rw (many-neg n h) at l)
  round-le (negsuc h) (negsuc m) l =
      let k : suc n * suc h - 1 ≤ m = rw (many-neg n h) at l in
      neg-down (half_up (suc m) (suc n)) h (near-ge (suc m) (suc n) (suc h) (omega arith) (omega arith))

  round-ge : (v s : ℤ) → Le (sum_of (replicate (suc n) v)) s → Le v (round_away s (suc n))
  unfolding Le round_away
  round-ge (pos h) (pos m) l = near-ge m (suc n) h (omega arith) (rw (many-pos (suc n) h) at l)
  round-ge (pos h) (negsuc m) l = absurd (rw (many-pos (suc n) h) at l)
  round-ge (negsuc h) (pos m) l = tt
  round-ge (negsuc h) (negsuc m) l =
      let k : m ≤ suc n * suc h - 1 = rw (many-neg n h) at l in
      neg-up (half_up (suc m) (suc n)) h (near_le (suc m) (suc n) (suc h) (omega arith) (omega (arith, suc-mul n (suc h))))

sums-le : (low high : ℤ) (xs : List ℤ) → Each low high xs → Le (sum_of xs) (sum_of (replicate (length xs) high))
unfolding Each sum_of
sums-le low high [] e = le_refl (pos 0)
sums-le low high (x ∷ xs) e = le-add x high (sum_of xs) _ e.1 (sums-le low high xs e.2)

sums-ge : (low high : ℤ) (xs : List ℤ) → Each low high xs → Le (sum_of (replicate (length xs) low)) (sum_of xs)
unfolding Each sum_of
sums-ge low high [] e = le_refl (pos 0)
sums-ge low high (x ∷ xs) e = le-add low x _ (sum_of xs) e.0 (sums-ge low high xs e.2)

-- the mean of numbers from low to high is from low to high
pub plain-between : (low high : ℤ) (xs : List ℤ) → 0 < length xs → Each low high xs → Between low high (plain_of xs)
unfolding plain_of
plain-between low high [] h e = absurd (omega arith)
plain-between low high (x ∷ xs) h e =
    (round-ge (length xs) low (sum_of (x ∷ xs)) (sums-ge low high (x ∷ xs) e), round-le (length xs) high (sum_of (x ∷ xs)) (sums-le low high (x ∷ xs) e))

-- the mean of i32s is an i32
pub between-fits : (z : ℤ) → Between (negsuc 2147483647) (pos 2147483647) z → SFits w32 z
unfolding Le
between-fits (pos m) h = record { sfits = omega arith }
between-fits (negsuc m) h = record { sfits = omega arith }

-- ---- with the largest and the smallest left out

pub averaged-few : (xs : List ℤ) → length xs < 4 → averaged_of xs ≡ xs
unfolding averaged_of
averaged-few xs h = pick-t _ xs (left_of xs) (lt-ltb (length xs) 4 h)

pub averaged-many : (xs : List ℤ) → 4 ≤ length xs → averaged_of xs ≡ left_of xs
unfolding averaged_of
averaged-many xs h = pick-f _ xs (left_of xs) (le-ltb (length xs) 4 h)

each-averaged : (low high : ℤ) (xs : List ℤ) → Each low high xs → Each low high (averaged_of xs)
unfolding averaged_of
each-averaged low high xs e = pick_all (λ (l : List ℤ). Each low high l) (ltb (length xs) 4) e (each_left low high xs e)

left-long : (xs : List ℤ) → 4 ≤ length xs → 0 < length (left_of xs)
left-long [] h = absurd (omega arith)
left-long (x ∷ []) h = absurd (omega arith)
left-long (x ∷ y ∷ ys) h = omega (arith, left-length x y ys)

averaged-long : (xs : List ℤ) → 0 < length xs → 0 < length (averaged_of xs)
unfolding averaged_of
averaged-long xs h =
    by-test
    (ltb (length xs) 4)
    (λ e. rw (pick-t _ xs (left_of xs) e) h)
    (λ e. rw (pick-f _ xs (left_of xs) e) (left-long xs (ltb-false (length xs) 4 e)))

-- where all that count are from low to high, so is the mean: it lies between the smallest and the largest of those left, and so of all
pub mean-between : (low high : ℤ) (xs : List ℤ) → 0 < length xs → Each low high (averaged_of xs) → Between low high (mean_of xs)
unfolding mean_of
mean-between low high xs h e = plain-between low high (averaged_of xs) (averaged-long xs h) e

each_both : (low high : ℤ) (xs : List ℤ) → Above low xs → Below high xs → Each low high xs
unfolding Above Below Each
each_both low high [] a b = tt
each_both low high (x ∷ xs) a b = (a.0, b.0, each_both low high xs a.1 b.1)

pub left-between : (xs : List ℤ) (y : ℤ) (ys : List ℤ) → 4 ≤ length xs → left_of xs ≡ y ∷ ys → Between (smallest y ys) (largest y ys) (mean_of xs)
left-between xs y ys h e =
    mean-between _ _ xs (omega arith) (rw (averaged-many xs h, e) (each_both _ _ (y ∷ ys) (smallest-above y ys) (largest-below y ys)))

pub mean-inside : (low high : ℤ) (xs : List ℤ) → 0 < length xs → Each low high xs → Between low high (mean_of xs)
mean-inside low high xs h e = mean-between low high xs h (each-averaged low high xs e)

pub mean-none : mean_of [] ≡ pos 0
unfolding mean_of averaged_of plain_of pick
mean-none = refl

pub mean-fits : (xs : List ℤ) → AllI32 xs → SFits w32 (mean_of xs)
mean-fits [] e = rw mean-none (between-fits (pos 0) (unfold Le in (tt, omega arith)))
mean-fits (x ∷ xs) e = between-fits _ (mean-inside _ _ (x ∷ xs) (omega arith) e)

size-from : (b : ℕ) (z : ℤ) → Between (neg_ℤ (pos b)) (pos b) z → nat_abs z ≤ b
unfolding Le
size-from zero (pos m) h = h.1
size-from zero (negsuc m) h = absurd h.0
size-from (suc b) (pos m) h = h.1
size-from (suc b) (negsuc m) h = omega (arith, h.0)

size-to : (b : ℕ) (z : ℤ) → nat_abs z ≤ b → Between (neg_ℤ (pos b)) (pos b) z
unfolding Le
size-to zero (pos m) h = (omega arith, h)
size-to zero (negsuc m) h = absurd (omega arith)
size-to (suc b) (pos m) h = (tt, h)
size-to (suc b) (negsuc m) h = (omega arith, tt)

within-each : (b : ℕ) (xs : List ℤ) → Within b xs → Each (neg_ℤ (pos b)) (pos b) xs
unfolding Within Each
within-each b [] w = tt
within-each b (x ∷ xs) w = ((size-to b x w.0).0, (size-to b x w.0).1, within-each b xs w.1)

-- the mean of numbers within b is within b
pub mean-within : (b : ℕ) (xs : List ℤ) → Within b xs → nat_abs (mean_of xs) ≤ b
mean-within b [] w = rw mean-none (omega arith)
mean-within b (x ∷ xs) w = size-from b _ (mean-inside _ _ (x ∷ xs) (omega arith) (within-each b (x ∷ xs) w))

-- from the sum, the largest and the smallest
plain-some : (xs : List ℤ) → 0 < length xs → plain_of xs ≡ round_away (sum_of xs) (length xs)
unfolding plain_of
plain-some [] h = absurd (omega arith)
plain-some (x ∷ xs) h = refl

pub mean-few : (xs : List ℤ) → 0 < length xs → length xs < 4 → mean_of xs ≡ round_away (sum_of xs) (length xs)
unfolding mean_of
mean-few xs h k = ap plain_of (averaged-few xs k) ∙ plain-some xs h

pub mean-many : (x : ℤ) (xs : List ℤ) → 4 ≤ length (x ∷ xs) → mean_of (x ∷ xs) ≡ round_away (sum_of (x ∷ xs) -ℤ largest x xs -ℤ smallest x xs) (length (x ∷ xs) - 2)
unfolding mean_of
mean-many x [] h = absurd (omega arith)
mean-many x (y ∷ ys) h =
    let e : length (left_of (x ∷ y ∷ ys)) ≡ length (x ∷ y ∷ ys) - 2 = omega (arith, left-length x y ys) in
    ap plain_of (averaged-many (x ∷ y ∷ ys) h)
    ∙ plain-some (left_of (x ∷ y ∷ ys)) (left-long (x ∷ y ∷ ys) h)
    ∙ rw (left-sum x y ys, e) refl

-- ---- one wild sample

largest-head : (w : ℤ) (xs : List ℤ) → Below w xs → largest w xs ≡ w
unfolding largest Below
largest-head w [] b = refl
largest-head w (y ∷ ys) b = rw (le_antisym (greater w y) w (greater-least w y w (le_refl w) b.0) (greater-left w y)) (largest-head w ys b.1)

smallest-head : (w : ℤ) (xs : List ℤ) → Above w xs → smallest w xs ≡ w
unfolding smallest Above
smallest-head w [] b = refl
smallest-head w (y ∷ ys) b = rw (le_antisym (lesser w y) w (lesser-left w y) (lesser-most w y w (le_refl w) b.0)) (smallest-head w ys b.1)

module _ (low high w : ℤ) (xs : List ℤ) (e : Each low high xs) where
  -- where it is above all others it is the largest, and goes
  wild-high : Below w xs → Each low high (left_of (w ∷ xs))
  unfolding left_of
  wild-high b =
      rw (largest-head w xs b, without-alike w w xs (alike_self w))
      (each-without low high (smallest w xs) xs e)

  -- where it is below all others it is the smallest, and goes
  wild-low : Above w xs → Each low high (left_of (w ∷ xs))
  unfolding left_of
  wild-low b =
      by-test
      (alike (largest w xs) w)
      (λ t. rw (without-alike (largest w xs) w xs t) (each-without low high (smallest w xs) xs e))
      (λ t.
      rw (smallest-head w xs b, without_other (largest w xs) w xs t, without-alike w w (without (largest w xs) xs) (alike_self w))
      (each-without low high (largest w xs) xs e))

each_below : (low high w : ℤ) (xs : List ℤ) → Le high w → Each low high xs → Below w xs
unfolding Each Below
each_below low high w [] h e = tt
each_below low high w (x ∷ xs) h e = (le_trans x high w e.1 h, each_below low high w xs h e.2)

each-above : (low high w : ℤ) (xs : List ℤ) → Le w low → Each low high xs → Above w xs
unfolding Each Above
each-above low high w [] h e = tt
each-above low high w (x ∷ xs) h e = (le_trans w low x h e.0, each-above low high w xs h e.2)

wild-left : (low high w : ℤ) (xs : List ℤ) → Each low high xs → Each low high (left_of (w ∷ xs))
unfolding Each
wild-left low high w xs e =
    by-test
    (lt_z high w)
    (λ t. wild-high low high w xs e (each_below low high w xs (lt-le high w t) e))
    (λ t.
    by-test
    (lt_z w low)
    (λ u. wild-low low high w xs e (each-above low high w xs (lt-le w low u) e))
    (λ u. each_left low high (w ∷ xs) (not-lt-le w low u, not-lt-le high w t, e)))

-- Of four samples or more, one may be as wild as it likes: the mean stays where the others are
pub wild-between : (low high w : ℤ) (xs : List ℤ) → 3 ≤ length xs → Each low high xs → Between low high (mean_of (w ∷ xs))
wild-between low high w xs h e =
    mean-between low high (w ∷ xs) (omega arith) (rw (averaged-many (w ∷ xs) (omega arith)) (wild-left low high w xs e))

each-equal : (n : ℕ) (v : ℤ) → Each v v (replicate n v)
unfolding Each
each-equal zero v = tt
each-equal (suc n) v = (le_refl v, le_refl v, each-equal n v)

-- the others equal: it does not move the mean
pub wild-equal : (v w : ℤ) (n : ℕ) → 3 ≤ n → mean_of (w ∷ replicate n v) ≡ v
wild-equal v w n h =
    let b = wild-between v v w (replicate n v) (omega (arith, length-replicate n v)) (each-equal n v) in
    le_antisym _ _ b.1 b.0

-- equal samples: the mean is that sample
pub mean-equal : (v : ℤ) (n : ℕ) → 0 < n → mean_of (replicate n v) ≡ v
mean-equal v n h =
    let b = mean-inside v v (replicate n v) (omega (arith, length-replicate n v)) (each-equal n v) in
    le_antisym _ _ b.1 b.0
