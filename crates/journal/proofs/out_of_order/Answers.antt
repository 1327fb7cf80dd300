use Rattle.laws.specs.Pick.{pick}
use Rattle.journal.specs.Journal.{out_of_order}
use Rattle.journal.proofs.out_of_order.Goals as goal

pub returns-then-past-2 : goal.returns-then-past-2
unfolding out_of_order pick
returns-then-past-2 c = rw (c.if-past.true, c.if-past-2.true)

pub returns-else-past-2 : goal.returns-else-past-2
unfolding out_of_order pick
returns-else-past-2 c = rw (c.if-past.true, c.if-past-2.false)
