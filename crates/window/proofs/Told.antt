-- What a pass over the first samples tells. Assumes nothing.
use mathlib.Core.Path.{◌≡◌, refl, sym, ap, ◌∙◌}
use mathlib.Core.Bool.{Bool, true, false, cond}
use mathlib.Core.List.{List, [], ◌∷◌}
use Prim.Native.Nat.{ℕ, zero, suc, ◌+◌, ◌*◌, ◌%◌, ◌^◌, ◌≤◌, ◌<◌}
use native.Mathlib.Omega.{arith}
use native.Mathlib.Numerals.{add-one}
use borrow.Author.Tests.{ltb-false}
use lib.Dec.{ltb}
use lib.IntN.{ℤ, pos, negsuc, ◌-ℤ◌, nat_abs}
use lib.ListN.{length, take, get_or}
use lib.Signed.{lt_z, mag}
use mir.Syntax.{w32}
use mir.Val.{SFits, of_z, to_z}
use Rattle.laws.specs.Pick.{pick, pick_all, pick-if, pick-t, pick-f}
use Rattle.laws.specs.Whole.{abs-sub}
use Rattle.window.specs.declared.Seen.{Seen}
use Rattle.std.specs.Int.{int_max, int_min}
use Rattle.window.specs.Mean.{round_away, greater, lesser, mean_of}
use Rattle.window.specs.Order.{le_refl, le_antisym, lt-le, not-lt-le, greater-left, greater-right, greater-least}
use Rattle.window.specs.Left.{by-test}
use Rattle.window.specs.Range.{Le, Each, Total}
use Rattle.window.specs.Pass.{lifted, start_of, with_of, passed, Passed, signed_of, left_sum, left_count, seen-mean, seen-sum}
use Rattle.window.proofs.Sum.{all_take}

pub abs-i32 : (z : ℤ) → SFits w32 z → nat_abs z ≤ 2147483648
abs-i32 (pos m) f = omega (arith, f.sfits)
abs-i32 (negsuc m) f = omega (arith, f.sfits)

-- the bits of an i32 are its lifted number's remainder
pub lifted-bits : (n : ℕ) (x : ℤ) → SFits w32 x → (n + of_z w32 x) % 4294967296 ≡ (n + lifted x) % 4294967296
unfolding lifted
lifted-bits n (pos m) f = omega arith
lifted-bits n (negsuc m) f = refl

-- a u32 read as an i32
pub signed-is : (n : ℕ) → n < 4294967296 → to_z w32 n ≡ signed_of n
unfolding signed_of
signed-is n h = by-test (ltb n 2147483648) (λ t. rw (pick-t _ _ _ t, t)) (λ t. rw (pick-f _ _ _ t, t) (ap negsuc (omega arith)))

-- the greater and the lesser of two
cond-if : (P : ℤ → Type 0) (t : Bool) {x y : ℤ} → (t ≡ true → P x) → (t ≡ false → P y) → P (cond t x y)
cond-if P true p q = p refl
cond-if P false p q = q refl

pub max-is : (a b : ℤ) → int_max a b ≡ greater a b
max-is a b =
    le_antisym _ _
    (cond-if (λ (z : ℤ). Le z (greater a b)) (lt_z b a) (λ t. greater-left a b) (λ t. greater-right a b))
    (greater-least a b _ (cond-if (λ (z : ℤ). Le a z) (lt_z b a) (λ t. le_refl a) (not-lt-le b a)) (cond-if (λ (z : ℤ). Le b z) (lt_z b a) (lt-le b a) (λ t. le_refl b)))

picked : (t : Bool) (x y : ℤ) → cond t x y ≡ pick t x y
unfolding pick
picked true x y = refl
picked false x y = refl

pub min-is : (a b : ℤ) → int_min a b ≡ lesser a b
unfolding lesser pick
min-is a b = picked (lt_z b a) b a

-- nothing is seen yet
pub passed-none : (t : Seen) → Passed t [] t
unfolding passed Each
passed-none t = record { told = refl; all = tt }

passed-take : (t : Seen) (xs : List ℤ) (k : ℕ) → k < length xs → passed t (take (suc k) xs) ≡ with_of (passed t (take k xs)) (get_or xs k (pos 0))
unfolding passed
passed-take t [] k h = absurd (omega arith)
passed-take t (x ∷ xs) zero h = refl
passed-take t (x ∷ xs) (suc k) h = passed-take (with_of t x) xs k (omega arith)

-- one sample more
pub passed-more : (t r u : Seen) (xs : List ℤ) (k : ℕ) → k < length xs → mag (get_or xs k (pos 0)) < 2 ^ 31 → u ≡ with_of r (get_or xs k (pos 0)) → Passed t (take k xs) r → Passed t (take (k + 1) xs) u
passed-more t r u xs k h m e p =
    rw add-one
    (record { told = e ∙ ap (λ (r : Seen). with_of r (get_or xs k (pos 0))) p.told ∙ sym (passed-take t xs k h); all = all_take xs k p.all m })

-- the samples of s, seen
abbrev pub Told : List ℤ → Seen → Type 0
Told s t = Passed (start_of (get_or s 0 (pos 0))) s t

-- their sum, where none is far
pub told-sum : (s : List ℤ) (t : Seen) → 0 < length s → length s ≤ 128 → Told s t → lt_z t.high (pos 16777216) ≡ true → lt_z (negsuc 16777215) t.low ≡ true → Total s (signed_of t.sum)
told-sum [] t h m p a b = absurd (omega arith)
told-sum (x ∷ xs) t h m p a b =
    record {
      adds = ap (λ (u : Seen). signed_of u.sum) p.told ∙ seen-sum x xs p.all m (rw p.told at a) (rw p.told at b);
      all = p.all;
    }

-- their mean
pub told-mean : (s : List ℤ) (t : Seen) (sum : ℤ) → 0 < length s → Told s t → Total s sum → round_away (left_sum t sum (length s)) (left_count (length s)) ≡ mean_of s
told-mean [] t sum h p q = absurd (omega arith)
told-mean (x ∷ xs) t sum h p q = rw (p.told, q.adds) (seen-mean x xs)

-- what is divided, and by how many
pub left-small : (t : Seen) (sum : ℤ) (n : ℕ) → nat_abs t.high ≤ 2147483648 → nat_abs t.low ≤ 2147483648 → nat_abs sum ≤ 128 * 2147483648 → nat_abs (left_sum t sum n) ≤ 130 * 2147483648
unfolding left_sum
left-small t sum n h l m =
    pick_all (λ (z : ℤ). nat_abs z ≤ 130 * 2147483648) (ltb n 4) (omega arith)
    (omega (arith, abs-sub (sum -ℤ t.high) t.low, abs-sub sum t.high))

pub left-count : (n : ℕ) → 0 < n → n ≤ 128 → (0 < left_count n) × (left_count n ≤ 128)
unfolding left_count
left-count n h m =
    pick-if (λ (k : ℕ). (0 < k) × (k ≤ 128)) (ltb n 4) (λ e. (h, m)) (λ e. let l = ltb-false n 4 e in (omega arith, omega arith))
