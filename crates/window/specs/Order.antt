-- Laws of the order of whole numbers, and of sums. Assumes nothing.
use Rattle.std.specs.Prelude.{◌≡◌, refl, Bool, true, false, cond, ℕ, suc, ◌+◌, ◌-◌, ltb, ℤ, pos, negsuc, ◌+ℤ◌, ◌-ℤ◌}
use Rattle.std.proofs.Common.{sym, ap, ◌∙◌, arith, ltb-true, ltb-false, lt-ltb, le-ltb, eqb-true, eq-eqb}
use Rattle.std.proofs.Math.IntN.{+ℤ_assoc, +ℤ_comm, +ℤ-neg_ℤ_cancel}
use Rattle.std.specs.Int.Signed.{lt_z}
use Rattle.laws.specs.Pick.{pick-if, pick_all}
use Rattle.laws.specs.Whole.{true-false, false-true}
use Rattle.window.specs.Range.{Le}
use Rattle.window.specs.Mean.{greater, lesser, alike}

pub le_refl : (a : ℤ) → Le a a
unfolding Le
le_refl (pos a) = omega arith
le_refl (negsuc a) = omega arith

pub le_trans : (a b c : ℤ) → Le a b → Le b c → Le a c
unfolding Le
le_trans (pos a) (pos b) (pos c) h k = omega arith
le_trans (pos a) (pos b) (negsuc c) h k = k
le_trans (pos a) (negsuc b) c h k = absurd h
le_trans (negsuc a) (pos b) (pos c) h k = tt
le_trans (negsuc a) (pos b) (negsuc c) h k = absurd k
le_trans (negsuc a) (negsuc b) (pos c) h k = tt
le_trans (negsuc a) (negsuc b) (negsuc c) h k = omega arith

pub le_antisym : (a b : ℤ) → Le a b → Le b a → a ≡ b
unfolding Le
le_antisym (pos a) (pos b) h k = ap pos (omega arith)
le_antisym (pos a) (negsuc b) h k = absurd h
le_antisym (negsuc a) (pos b) h k = absurd k
le_antisym (negsuc a) (negsuc b) h k = ap negsuc (omega arith)

pub lt-le : (a b : ℤ) → lt_z a b ≡ true → Le a b
unfolding Le
lt-le (pos a) (pos b) t = omega (arith, ltb-true a b t)
lt-le (pos a) (negsuc b) t = false-true t
lt-le (negsuc a) (pos b) t = tt
lt-le (negsuc a) (negsuc b) t = omega (arith, ltb-true b a t)

pub not-lt-le : (a b : ℤ) → lt_z a b ≡ false → Le b a
unfolding Le
not-lt-le (pos a) (pos b) t = ltb-false a b t
not-lt-le (pos a) (negsuc b) t = tt
not-lt-le (negsuc a) (pos b) t = true-false t
not-lt-le (negsuc a) (negsuc b) t = ltb-false b a t

pub alike-eq : (a b : ℤ) → alike a b ≡ true → a ≡ b
unfolding alike
alike-eq (pos a) (pos b) t = ap pos (eqb-true a b t)
alike-eq (pos a) (negsuc b) t = false-true t
alike-eq (negsuc a) (pos b) t = false-true t
alike-eq (negsuc a) (negsuc b) t = ap negsuc (eqb-true a b t)

pub alike_self : (a : ℤ) → alike a a ≡ true
unfolding alike
alike_self (pos a) = eq-eqb a a refl
alike_self (negsuc a) = eq-eqb a a refl

-- what is added: b is a and k more
gap : (t : Bool) (k m : ℕ) → Le (negsuc m) (cond t (negsuc (suc m - suc k)) (pos (k - suc m)))
unfolding Le
gap true k m = omega arith
gap false k m = tt

le-more : (a : ℤ) (k : ℕ) → Le a (a +ℤ pos k)
unfolding Le
le-more (pos a) k = omega arith
le-more (negsuc a) k = gap (ltb k (suc a)) k a

more-to : (a b : ℤ) → Le a b → (k : ℕ) × (b ≡ a +ℤ pos k)
unfolding Le
more-to (pos a) (pos b) h = (b - a, ap pos (omega arith))
more-to (pos a) (negsuc b) h = absurd h
more-to (negsuc a) (pos b) h = (suc a + b, rw (le-ltb (suc a + b) (suc a) (omega arith)) (ap pos (omega arith)))
more-to (negsuc a) (negsuc b) h = (a - b, rw (lt-ltb (a - b) (suc a) (omega arith)) (ap negsuc (omega arith)))

pub regroup : (a b c d : ℤ) → (a +ℤ b) +ℤ (c +ℤ d) ≡ (a +ℤ c) +ℤ (b +ℤ d)
regroup a b c d =
    +ℤ_assoc a b (c +ℤ d)
    ∙ ap (λ (z : ℤ). a +ℤ z) (sym (+ℤ_assoc b c d) ∙ ap (λ (z : ℤ). z +ℤ d) (+ℤ_comm b c) ∙ +ℤ_assoc c b d)
    ∙ sym (+ℤ_assoc a c (b +ℤ d))

pub le-add : (a b c d : ℤ) → Le a b → Le c d → Le (a +ℤ c) (b +ℤ d)
le-add a b c d h k =
    let p = more-to a b h in
    let q = more-to c d k in
    rw (p.1, q.1, regroup a (pos p.0) c (pos q.0)) (le-more (a +ℤ c) (p.0 + q.0))

pub less-first : (a b : ℤ) → (a +ℤ b) -ℤ a ≡ b
less-first a b = ap (λ (z : ℤ). z -ℤ a) (+ℤ_comm a b) ∙ +ℤ-neg_ℤ_cancel b a

module _ (a b : ℤ) where
  pub greater-left : Le a (greater a b)
  unfolding greater
  greater-left = pick-if (λ (z : ℤ). Le a z) (lt_z a b) (lt-le a b) (λ e. le_refl a)

  pub greater-right : Le b (greater a b)
  unfolding greater
  greater-right = pick-if (λ (z : ℤ). Le b z) (lt_z a b) (λ e. le_refl b) (not-lt-le a b)

  pub lesser-left : Le (lesser a b) a
  unfolding lesser
  lesser-left = pick-if (λ (z : ℤ). Le z a) (lt_z b a) (lt-le b a) (λ e. le_refl a)

  pub lesser-right : Le (lesser a b) b
  unfolding lesser
  lesser-right = pick-if (λ (z : ℤ). Le z b) (lt_z b a) (λ e. le_refl b) (not-lt-le b a)

  pub greater-least : (m : ℤ) → Le a m → Le b m → Le (greater a b) m
  unfolding greater
  greater-least m h k = pick_all (λ (z : ℤ). Le z m) (lt_z a b) k h

  pub lesser-most : (m : ℤ) → Le m a → Le m b → Le m (lesser a b)
  unfolding lesser
  lesser-most m h k = pick_all (λ (z : ℤ). Le m z) (lt_z b a) k h
