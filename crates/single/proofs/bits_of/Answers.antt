-- The machine reads the weight back from its bits, which is the weight; its single is no NaN.
use mathlib.Core.Path.{sym, ap, subst}
use mathlib.Core.Bool.{not}
use lib.Dec.{T}
use lib.IntN.{ℤ}
use lib.Ieee.{binary32, of_int, to_bits, in_float, is_nan}
use mir.Syntax.{w32}
use mir.ValLaws.{to_z-of_z}
use Rattle.single.specs.Single.{single_of, bits_of}
use Rattle.single.specs.Exact.{in-float, single-no-nan}
use Rattle.single.proofs.bits_of.Goals as goal

pub int_to_float-result : goal.int_to_float-result
int_to_float-result c =
    let w = c.args.w in
    subst (λ (z : ℤ). T (in_float binary32 z)) (sym (to_z-of_z w32 w c.ranges.w)) (in-float w c.requires)

pub float_to_bits-result : goal.float_to_bits-result
unfolding single_of
float_to_bits-result c =
    let w = c.args.w in
    subst (λ (z : ℤ). T (not (is_nan (of_int binary32 z)))) (sym (to_z-of_z w32 w c.ranges.w)) (single-no-nan w c.requires)

pub returns : goal.returns
unfolding single_of bits_of
returns c = ap (λ (z : ℤ). to_bits binary32 (of_int binary32 z)) (to_z-of_z w32 c.args.w c.ranges.w)
