use Rattle.laws.specs.Pick.{pick_true, pick-false, so}
use Rattle.asking.specs.Asking.{address_of}
use Rattle.asking.proofs.address_stage.Goals as goal

pub returns-then-is_ours : goal.returns-then-is_ours
unfolding address_of
returns-then-is_ours c = simp (so c.is_ours.ensures c.if-is_ours.true, pick_true)

pub returns-else-is_ours : goal.returns-else-is_ours
unfolding address_of
returns-else-is_ours c = simp (so c.is_ours.ensures c.if-is_ours.false, pick-false)
