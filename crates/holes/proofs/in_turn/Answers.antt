use Rattle.holes.proofs.Marking.{turn_one, turn_last, turn-none, turn-next}
use Rattle.holes.proofs.in_turn.Goals as goal

pub returns-then-count-eq1 : goal.returns-then-count-eq1
returns-then-count-eq1 c = turn_one _ _ c.if-count-eq1.true

pub returns-then-before-eq-LAST_COUNT : goal.returns-then-before-eq-LAST_COUNT
returns-then-before-eq-LAST_COUNT c = turn_last _ _ c.if-count-eq1.false c.if-before-eq-LAST_COUNT.true

pub returns-then-count-eq0 : goal.returns-then-count-eq0
returns-then-count-eq0 c = turn-none _ _ c.if-count-eq1.false c.if-before-eq-LAST_COUNT.false c.if-count-eq0.true

pub returns : goal.returns
returns c = turn-next _ _ c.if-count-eq1.false c.if-before-eq-LAST_COUNT.false c.if-count-eq0.false
