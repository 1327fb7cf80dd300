use borrow.Author.Tests.{le-leb, lt-leb}
use Rattle.laws.specs.Pick.{pick_true, pick-false}
use Rattle.reasons.proofs.at_wf.Goals as goal

pub returns-then-output-le2 : goal.returns-then-output-le2
returns-then-output-le2 c = simp (le-leb _ _ c.if-output-le2.true, pick_true)

pub returns : goal.returns
returns c = simp (lt-leb _ _ c.if-output-le2.false, pick-false)
