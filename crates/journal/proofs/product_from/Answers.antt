use Rattle.laws.specs.Pick.{picks}
use Rattle.journal.specs.Fields.{product_from}
use Rattle.journal.proofs.product_from.Goals as goal

pub returns-then-n-eq5 : goal.returns-then-n-eq5
unfolding product_from
returns-then-n-eq5 c = search picks

pub returns-else-n-eq5 : goal.returns-else-n-eq5
unfolding product_from
returns-else-n-eq5 c = search picks
