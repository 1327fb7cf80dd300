-- A number's sign and its size, as the code finds them.
use mathlib.Core.Path.{◌≡◌, refl, ap, ◌∙◌}
use mathlib.Core.Bool.{Bool, true, false}
use Prim.Native.Nat.{ℕ, ◌≤◌}
use native.Mathlib.Omega.{arith}
use lib.IntN.{ℤ, pos, negsuc, ◌-ℤ◌, neg_ℤ, nat_abs, +ℤ_idl, neg_ℤ-neg_ℤ}
use lib.Signed.{lt_z}
use borrow.Author.Tests.{le-ltb}
use Rattle.laws.specs.Whole.{below-zero}
use Rattle.laws.specs.Pick.{pick}
use Rattle.field.specs.Field.{negative, bit_of}

pub negative-test : (w : ℤ) → lt_z w (pos 0) ≡ negative w
unfolding negative
negative-test (pos n) = le-ltb n 0 (omega arith)
negative-test (negsuc n) = refl

pub turned : (w : ℤ) → lt_z w (pos 0) ≡ true → pos 0 -ℤ w ≡ pos (nat_abs w)
turned w t = +ℤ_idl (neg_ℤ w) ∙ ap neg_ℤ (below-zero w t) ∙ neg_ℤ-neg_ℤ (pos (nat_abs w))

-- a bit of CON is at most its worth
pub bit-at-most : (on : Bool) (worth : ℕ) → bit_of on worth ≤ worth
unfolding bit_of pick
bit-at-most true worth = omega arith
bit-at-most false worth = omega arith
