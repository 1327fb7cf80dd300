use borrow.Author.Rules.{rules}
use mathlib.Core.Path.{ap, ◌∙◌}
use mir.Syntax.{w32}
use mir.Val.{SFits}
use mir.Facts.{to_z-of_z}
use Rattle.dosing.specs.Rules.{units}
use Rattle.scale.specs.Scale.{filtered_lent}
use Rattle.scale.proofs.mean_lent.Goals as goal

pub returns : goal.returns
unfolding filtered_lent
returns c = let f : SFits w32 c.mean_of.result = search rules in ap units (to_z-of_z f ∙ c.mean_of.ensures)
