use Rattle.std.proofs.Common.{rules}
use Rattle.sheet.proofs.Days.{stored-none, stored-room, stored_more, stored-all}
use Rattle.sheet.proofs.put_days.Goals as goal

pub loop-d-init : goal.loop-d-init
loop-d-init c = stored-none _ _ (search rules) c.requires

pub put_day-at-requires : goal.put_day-at-requires
put_day-at-requires c = stored-room _ _ _ _ _ _ c.loop-d.invariant c.loop-d-test.true

pub loop-d-preserved : goal.loop-d-preserved
loop-d-preserved c = stored_more _ _ _ _ _ _ _ _ c.loop-d.invariant c.loop-d-test.true c.put_day-at.ensures

pub returns : goal.returns
returns c = stored-all _ _ _ _ _ c.loop-d.invariant c.loop-d-test.false
