use Rattle.laws.specs.Pick.{pick_true, pick-false}
use Rattle.dosing.specs.Rules.{hold}
use Rattle.dosing.proofs.hold.Goals as goal

pub returns-then-t : goal.returns-then-t
unfolding hold
returns-then-t c = simp (c.rests.ensures, c.if-t.true, pick_true)

pub returns : goal.returns
unfolding hold
returns c = simp (c.rests-2.ensures, c.if-t.false, pick-false)
