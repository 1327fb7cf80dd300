use Rattle.std.proofs.Common.{ap, sym}
use Rattle.weekly.specs.Says.{hours_in}
use Rattle.weekly.proofs.hours_in.Goals as goal

pub returns-in-Ok : goal.returns-in-Ok
unfolding hours_in
returns-in-Ok c = ap hours_in (sym c.in-Ok.is)

pub returns-in-Err : goal.returns-in-Err
unfolding hours_in
returns-in-Err c = ap hours_in (sym c.in-Err.is)
