use Rattle.laws.specs.Pick.{picks}
use Rattle.dosing.specs.Rules.{waits, ready}
use Rattle.dosing.proofs.ready.Goals as goal

pub returns-then-set-le1 : goal.returns-then-set-le1
unfolding ready
returns-then-set-le1 c = search (picks, c.ready_to_fill.ensures)

pub returns-then-set-t : goal.returns-then-set-t
unfolding ready waits
returns-then-set-t c = search (picks, c.rests.ensures)

pub returns : goal.returns
unfolding ready waits
returns c = search (picks, c.ready_to_dose.ensures)
