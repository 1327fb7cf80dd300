-- Laws that the proofs of the code cite: weights and their differences in a machine's integers. Assumes nothing.
use mathlib.Core.Path.{◌≡◌, refl, ◌∙◌}
use mathlib.Core.Bool.{true, false}
use Prim.Native.Nat.{◌<◌}
use native.Mathlib.Omega.{arith}
use lib.IntN.{ℤ, pos, negsuc, nat_abs}
use lib.Signed.{lt_z}
use mir.Syntax.{w64}
use mir.Val.{to_z, of_z, SFits}
use mir.Facts.{to_z-of_z}
use borrow.Author.Tests.{ltb-true}
use Rattle.laws.specs.Whole.{true-false}
use Rattle.dosing.specs.Rules.{not_below_zero}

-- an i64 handed to a function is read there as it is
pub read_as : {z x : ℤ} → z ≡ x → SFits w64 z → to_z w64 (of_z w64 z) ≡ x
read_as h f = to_z-of_z f ∙ h

-- the amount by a test of the sign
pub amount-below : (x : ℤ) → lt_z x (pos 0) ≡ true → not_below_zero x ≡ 0
unfolding not_below_zero
amount-below (pos n) h = let q : n < 0 = ltb-true n 0 h in absurd (omega arith)
amount-below (negsuc n) h = refl

pub amount-from : (x : ℤ) → lt_z x (pos 0) ≡ false → nat_abs x ≡ not_below_zero x
unfolding not_below_zero
amount-from (pos n) h = refl
amount-from (negsuc n) h = true-false h
