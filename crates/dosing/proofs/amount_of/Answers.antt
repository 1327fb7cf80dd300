use Rattle.laws.specs.Pick.{picks}
use Rattle.dosing.specs.Rules.{amount_of}
use Rattle.dosing.proofs.amount_of.Goals as goal

pub returns-then-set-eq0 : goal.returns-then-set-eq0
unfolding amount_of
returns-then-set-eq0 c = search (picks, c.not_below_zero.ensures)

pub returns : goal.returns
unfolding amount_of
returns c = search (picks, c.not_below_zero-2.ensures)
