use borrow.Author.Tests.{eq-eqb, ne_eqb}
use Rattle.laws.specs.Pick.{pick_true, pick-false}
use Rattle.reasons.specs.Reasons.{open_at}
use Rattle.reasons.proofs.is_open.Goals as goal

pub returns-then-output-eq1 : goal.returns-then-output-eq1
unfolding open_at
returns-then-output-eq1 c = simp (eq-eqb _ _ c.if-output-eq1.true, pick_true)

pub returns-then-output-eq2 : goal.returns-then-output-eq2
unfolding open_at
returns-then-output-eq2 c = simp (ne_eqb _ _ c.if-output-eq1.false, eq-eqb _ _ c.if-output-eq2.true, pick_true, pick-false)

pub returns : goal.returns
unfolding open_at
returns c = simp (ne_eqb _ _ c.if-output-eq1.false, ne_eqb _ _ c.if-output-eq2.false, pick-false)
