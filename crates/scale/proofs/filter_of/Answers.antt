use Rattle.laws.specs.Pick.{picks}
use Rattle.scale.specs.Scale.{filter_of}
use Rattle.scale.proofs.filter_of.Goals as goal

pub returns-then-g : goal.returns-then-g
unfolding filter_of
returns-then-g c = search picks

pub returns-else-g : goal.returns-else-g
unfolding filter_of
returns-else-g c = search picks
