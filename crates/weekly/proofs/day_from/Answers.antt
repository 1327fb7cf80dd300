use Rattle.std.proofs.Common.{rules, arith}
use Rattle.weekly.proofs.Passed.{through-none, through-room, through-more, through-day}
use Rattle.weekly.proofs.day_from.Goals as goal

pub loop-hour-init : goal.loop-hour-init
loop-hour-init c = through-none _ _ (search rules) (omega arith) (omega arith) (omega arith)

pub with_hour-seen-requires : goal.with_hour-seen-requires
with_hour-seen-requires c = through-room _ _ _ _ c.loop-hour.invariant c.loop-hour-test.true c.requires

pub loop-hour-preserved : goal.loop-hour-preserved
loop-hour-preserved c = through-more _ _ _ _ _ c.loop-hour.invariant c.loop-hour-test.true c.with_hour-seen.ensures

pub returns : goal.returns
returns c =
    let l = c.loop-hour in
    through-day _ l.seen _ _ l.invariant c.loop-hour-test.false c.kind_by.ensures
