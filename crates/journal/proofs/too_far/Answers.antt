use Rattle.journal.specs.Journal.{too_far}
use Rattle.journal.proofs.too_far.Goals as goal

pub returns-then-past : goal.returns-then-past
unfolding too_far
returns-then-past c = rw c.if-past.true
