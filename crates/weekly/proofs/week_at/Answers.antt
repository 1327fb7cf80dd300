use Rattle.std.proofs.Common.{rules, arith}
use Rattle.weekly.specs.Week.{week_by}
use Rattle.weekly.specs.Says.{says_hours}
use Rattle.weekly.proofs.Filled.{filled_none, filled_more, filled-all}
use Rattle.weekly.proofs.week_at.Goals as goal

pub loop-d-init : goal.loop-d-init
loop-d-init c = filled_none _ _ 7 _ (search rules)

pub loop-d-preserved : goal.loop-d-preserved
loop-d-preserved c = filled_more _ _ 7 _ _ _ c.loop-d.invariant (omega arith) c.row_at.ensures

pub returns : goal.returns
unfolding week_by says_hours
returns c = filled-all _ _ 7 _ _ c.loop-d.invariant (omega arith)
