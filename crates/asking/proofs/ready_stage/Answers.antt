use Rattle.laws.specs.Pick.{pick_true, pick-false}
use Rattle.asking.specs.Asking.{time_of}
use Rattle.asking.proofs.ready_stage.Goals as goal

pub returns-then-timely : goal.returns-then-timely
unfolding time_of
returns-then-timely c = simp (c.if-timely.true, pick_true)

pub returns-else-timely : goal.returns-else-timely
unfolding time_of
returns-else-timely c = simp (c.if-timely.false, pick-false)
