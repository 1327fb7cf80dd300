use mathlib.Core.Path.{◌∙◌}
use borrow.Author.Tests.{eq-eqb, ne_eqb}
use Rattle.laws.specs.Pick.{pick_true, pick-false}
use Rattle.reasons.proofs.in_settle.Goals as goal

pub returns-then-output-eq3 : goal.returns-then-output-eq3
returns-then-output-eq3 c = simp (eq-eqb _ _ c.if-output-eq3.true, pick_true)

pub returns : goal.returns
returns c = c.at_wf.ensures ∙ simp (ne_eqb _ _ c.if-output-eq3.false, pick-false)
