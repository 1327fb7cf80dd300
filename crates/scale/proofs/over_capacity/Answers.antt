use mathlib.Core.Path.{ap, ◌∙◌}
use lib.IntN.{ℤ}
use mir.Syntax.{w64}
use mir.Val.{SFits}
use borrow.Author.Rules.{rules}
use Rattle.scale.specs.Scale.{over_capacity}
use Rattle.scale.proofs.Laws.{over-is}
use Rattle.scale.proofs.over_capacity.Goals as goal

pub returns : goal.returns
returns c =
    let a = c.args in
    let f : SFits w64 c.net.result.v = search rules in
    over-is a.set (search rules) f ∙ ap (λ (w : ℤ). over_capacity a.set w) c.net.ensures
