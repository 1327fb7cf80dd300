use mathlib.Core.Path.{◌≡◌}
use mir.Syntax.{w64}
use mir.Val.{to_z, of_z, SFits}
use borrow.Author.Rules.{rules}
use Rattle.dosing.specs.Rules.{near_zero}
use Rattle.dosing.proofs.Laws.{read_as}
use Rattle.dosing.proofs.near_zero.Goals as goal

pub returns : goal.returns
unfolding near_zero
returns c =
    let wide : SFits w64 c.widened-x.result = search rules in
    let read : to_z w64 (of_z w64 c.widened-x.result) ≡ c.args.f.v = read_as c.widened-x.ensures wide in
    rw (c.below.ensures, c.above_minus.ensures, read)
