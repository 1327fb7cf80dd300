use Rattle.laws.specs.Pick.{picks}
use Rattle.journal.proofs.first_hour.Goals as goal

pub returns-then-past : goal.returns-then-past
returns-then-past c = search picks

pub returns-else-past : goal.returns-else-past
returns-else-past c = search picks
