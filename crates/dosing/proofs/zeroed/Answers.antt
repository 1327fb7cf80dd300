use Rattle.laws.specs.Pick.{pick_true, pick-false, so}
use Rattle.dosing.specs.Rules.{zeroed}
use Rattle.dosing.proofs.zeroed.Goals as goal

pub returns-then-near_zero : goal.returns-then-near_zero
unfolding zeroed
returns-then-near_zero c = simp (so c.near_zero.ensures c.if-near_zero.true, pick_true)

pub returns : goal.returns
unfolding zeroed
returns c = simp (so c.near_zero.ensures c.if-near_zero.false, pick-false)
