use Rattle.std.proofs.Common.{rules, arith, ◌∙◌}
use Rattle.weekly.proofs.Filled.{mapped-none, mapped-more, mapped-all}
use Rattle.weekly.proofs.Passed.{row-whole, days-in}
use Rattle.weekly.proofs.days_from.Goals as goal

pub loop-d-init : goal.loop-d-init
loop-d-init c = mapped-none _ _ 7 _ (search rules) (search rules)

pub day_from-requires : goal.day_from-requires
day_from-requires c = row-whole _ _ _ _ c.loop-d.invariant (omega arith) c.requires

pub loop-d-preserved : goal.loop-d-preserved
loop-d-preserved c = mapped-more _ _ 7 _ _ _ _ c.loop-d.invariant (omega arith) c.day_from.ensures

pub returns : goal.returns
returns c = mapped-all _ _ 7 _ _ c.loop-d.invariant (omega arith) ∙ days-in _
