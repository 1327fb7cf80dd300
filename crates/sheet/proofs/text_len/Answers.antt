use Rattle.std.proofs.Common.{rules, arith}
use Rattle.sheet.proofs.Days.{measured-none, measured-more, measured-all}
use Rattle.sheet.proofs.text_len.Goals as goal

pub loop-d-init : goal.loop-d-init
loop-d-init c = measured-none _ (search rules)

pub overflow_add-n : goal.overflow_add-n
overflow_add-n c = omega (arith, c.day_len-n.ensures.small, c.loop-d.invariant.small, c.loop-d-test.true)

pub loop-d-preserved : goal.loop-d-preserved
loop-d-preserved c = measured-more _ _ _ _ _ c.loop-d.invariant c.loop-d-test.true c.day_len-n.ensures.is c.day_len-n.ensures.small

pub returns : goal.returns
returns c = measured-all _ _ _ c.loop-d.invariant c.loop-d-test.false
