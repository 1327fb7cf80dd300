use Rattle.hourly.specs.Hours.{asks_for}
use Rattle.hourly.proofs.asks_for.Goals as goal

pub returns-in-All : goal.returns-in-All
unfolding asks_for
returns-in-All c = rw c.in-All.is

pub returns-in-One : goal.returns-in-One
unfolding asks_for
returns-in-One c = rw c.in-One.is
