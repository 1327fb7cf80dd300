use Rattle.laws.specs.Pick.{pick_true, pick-false}
use Rattle.asking.specs.Asking.{zero_of}
use Rattle.asking.proofs.zero_stage.Goals as goal

pub returns-then-zeroable : goal.returns-then-zeroable
unfolding zero_of
returns-then-zeroable c = simp (c.if-zeroable.true, pick_true)

pub returns-else-zeroable : goal.returns-else-zeroable
unfolding zero_of
returns-else-zeroable c = simp (c.if-zeroable.false, pick-false)
