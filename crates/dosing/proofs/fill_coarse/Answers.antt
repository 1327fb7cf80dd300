use Rattle.laws.specs.Pick.{pick_true, pick-false, so}
use Rattle.dosing.specs.Rules.{fill}
use Rattle.dosing.proofs.fill_coarse.Goals as goal

pub returns-then-start_gone : goal.returns-then-start_gone
unfolding fill
returns-then-start_gone c = simp (c.rests.ensures, so c.start_gone.ensures c.if-start_gone.true, pick_true)

pub returns : goal.returns
unfolding fill
returns c = simp (c.coarse_stage.ensures, so c.start_gone.ensures c.if-start_gone.false, pick-false)
