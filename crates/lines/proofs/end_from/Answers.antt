use mathlib.Core.Path.{◌∙◌}
use native.Mathlib.Omega.{arith}
use Rattle.lines.proofs.Ends.{end_all, end-here, end_on}
use Rattle.lines.proofs.end_from.Goals as goal

pub returns-then-block-i-eq-LF : goal.returns-then-block-i-eq-LF
returns-then-block-i-eq-LF c = end-here _ _ c.loop-i-test.true c.if-block-i-eq-LF.true ∙ c.loop-i.invariant

pub loop-i-preserved : goal.loop-i-preserved
loop-i-preserved c = end_on _ _ c.loop-i-test.true c.if-block-i-eq-LF.false ∙ c.loop-i.invariant

pub returns : goal.returns
returns c = c.max.ensures ∙ end_all _ _ _ (omega arith) (omega arith) c.loop-i.invariant
