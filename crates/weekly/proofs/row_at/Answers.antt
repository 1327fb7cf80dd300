use Rattle.std.proofs.Common.{rules, arith}
use Rattle.weekly.specs.Week.{day_by}
use Rattle.weekly.proofs.Filled.{filled_none, filled_more, filled-all}
use Rattle.weekly.proofs.row_at.Goals as goal

pub loop-h-init : goal.loop-h-init
loop-h-init c = filled_none _ _ 24 _ (search rules)

pub loop-h-preserved : goal.loop-h-preserved
loop-h-preserved c = filled_more _ _ 24 _ _ _ c.loop-h.invariant (omega arith) c.hour_among.ensures

pub returns : goal.returns
unfolding day_by
returns c = filled-all _ _ 24 _ _ c.loop-h.invariant (omega arith)
