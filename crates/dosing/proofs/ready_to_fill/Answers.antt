use Rattle.laws.specs.Pick.{pick_true, pick-false}
use Rattle.dosing.specs.Rules.{fill_begins, ready_to_fill}
use Rattle.dosing.proofs.ready_to_fill.Goals as goal

pub returns-then-t : goal.returns-then-t
unfolding ready_to_fill fill_begins
returns-then-t c = simp (c.coarse_stage.ensures, c.zeroed-begun.ensures, c.if-t.true, pick_true)

pub returns : goal.returns
unfolding ready_to_fill
returns c = simp (c.rests.ensures, c.if-t.false, pick-false)
