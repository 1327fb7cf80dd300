use Rattle.laws.specs.Pick.{picks}
use Rattle.channels.specs.Channels.{worth}
use Rattle.channels.proofs.bit_of.Goals as goal

pub returns-then-on : goal.returns-then-on
unfolding worth
returns-then-on c = search picks

pub returns-else-on : goal.returns-else-on
unfolding worth
returns-else-on c = search picks
