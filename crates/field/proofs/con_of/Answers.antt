use mathlib.Core.Path.{◌≡◌, ap, ◌∙◌}
use mathlib.Core.Bool.{Bool}
use Prim.Native.Nat.{◌+◌, ◌≤◌}
use native.Mathlib.Omega.{arith}
use lib.IntN.{ℤ, pos}
use lib.Signed.{lt_z}
use mir.Syntax.{w32}
use mir.Val.{SFits, to_z, of_z}
use mir.Facts.{to_z-of_z}
use borrow.Author.Rules.{rules}
use Rattle.field.specs.Field.{con_of, bit_of, negative}
use Rattle.field.proofs.Sign.{bit-at-most}
use Rattle.field.specs.RoundTrip.{con-most}
use Rattle.field.proofs.Sign.{negative-test}
use Rattle.field.proofs.con_of.Goals as goal
use Rattle.field.proofs.con_of.Goals.{After-bit_of-3}

module _ (c : After-bit_of-3) where
  sign : c.bit_of.result ≡ bit_of (negative c.args.v.value) 128
  sign =
      let fits : SFits w32 c.args.v.value = search rules in
      c.bit_of.ensures
      ∙ ap (λ (b : Bool). bit_of b 128) (ap (λ (z : ℤ). lt_z z (pos 0)) (to_z-of_z fits) ∙ negative-test c.args.v.value)

  sum : c.bit_of.result + c.bit_of-2.result + c.bit_of-3.result + c.args.v.point ≡ con_of c.args.v
  unfolding con_of
  sum = omega (arith, sign)

pub overflow_add-result : goal.overflow_add-result
overflow_add-result c =
    let s : bit_of (lt_z (to_z w32 (of_z w32 c.args.v.value)) (pos 0)) 128 ≤ 128 = bit-at-most _ 128 in
    omega (arith, s, bit-at-most c.args.v.stable 16)

pub overflow_add-result-2 : goal.overflow_add-result-2
overflow_add-result-2 c = omega (arith, sum c, con-most c.args.v c.requires)

pub overflow_add-result-3 : goal.overflow_add-result-3
overflow_add-result-3 c = omega (arith, sum (goal.at.overflow_add-result-3 c).After-bit_of-3, con-most c.args.v c.requires)

pub returns : goal.returns
returns c = sum (goal.at.returns c).After-bit_of-3
