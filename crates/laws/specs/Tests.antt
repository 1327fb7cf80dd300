-- A test that is computed over every number below a bound or over every entry of a list, and the law that turns it into the rule for each. Assumes nothing.
use Rattle.std.proofs.Common.{subst, not-suc-le-zero, le_of_suc-le-suc, arith}
use Rattle.std.specs.Prelude.{Bool, true, false, List, [], ◌∷◌, ℕ, zero, suc, ◌<◌, T, length, get_or}
use Rattle.std.proofs.Math.Decide.{dec_lt}

unfoldable pub both : Bool → Bool → Bool
both true b = b
both false b = false

pub both_left : (a b : Bool) → T (both a b) → T a
unfolding both
both_left true b t = tt
both_left false b t = t

pub both_right : (a b : Bool) → T (both a b) → T b
unfolding both
both_right true b t = t
both_right false b t = absurd t

-- the test f passes at n - 1, .., 0
unfoldable pub below : (ℕ → Bool) → ℕ → Bool
below f zero = true
below f (suc n) = both (f n) (below f n)

pub below_at : (f : ℕ → Bool) (n : ℕ) → T (below f n) → (k : ℕ) → k < n → T (f k)
unfolding below
below_at f zero t k h = absurd (not-suc-le-zero h)
below_at f (suc n) t k h =
    elim (dec_lt k n) [
      | yes l ↦ below_at f n (both_right (f n) (below f n) t) k l
      | no l ↦ subst (λ (m : ℕ). T (f m)) (omega arith) (both_left (f n) (below f n) t)
    ]

-- the test f passes at each entry
unfoldable pub each : {A : Type 0} → (A → Bool) → List A → Bool
each f [] = true
each f (x ∷ xs) = both (f x) (each f xs)

pub each_at : {A : Type 0} (f : A → Bool) (l : List A) (d : A) → T (each f l) → (k : ℕ) → k < length l → T (f (get_or l k d))
unfolding each
each_at f [] d t k h = absurd (not-suc-le-zero h)
each_at f (x ∷ xs) d t zero h = both_left (f x) (each f xs) t
each_at f (x ∷ xs) d t (suc k) h = each_at f xs d (both_right (f x) (each f xs) t) k (le_of_suc-le-suc h)
