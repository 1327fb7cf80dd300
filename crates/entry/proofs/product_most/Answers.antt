use Rattle.journal.specs.Line.{product_most}
use Rattle.entry.proofs.product_most.Goals as goal

pub returns-in-Old : goal.returns-in-Old
unfolding product_most
returns-in-Old c = rw c.in-Old.is

pub returns-in-New : goal.returns-in-New
unfolding product_most
returns-in-New c = rw c.in-New.is
