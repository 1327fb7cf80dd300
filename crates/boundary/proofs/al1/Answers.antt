use mathlib.Core.Path.{refl}
use Rattle.boundary.specs.Table.{al1}
use Rattle.boundary.proofs.al1.Goals as goal

pub returns : goal.returns
unfolding al1
returns c = refl
