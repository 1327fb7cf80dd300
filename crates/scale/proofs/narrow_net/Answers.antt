use borrow.Author.Rules.{rules}
use mathlib.Core.Path.{ap, ◌∙◌}
use mir.Syntax.{w32}
use mir.Val.{SFits}
use mir.Facts.{to_z-of_z}
use Rattle.dosing.specs.Rules.{units}
use Rattle.scale.proofs.Laws.{net-or}
use Rattle.scale.proofs.narrow_net.Goals as goal

pub returns : goal.returns
returns c =
    let f : SFits w32 c.unwrap_or.result = search rules in
    ap units (to_z-of_z f ∙ c.unwrap_or.ensures ∙ rw (c.six_digits.ensures, c.net.ensures) (net-or c.args.f.v c.args.z.v))
