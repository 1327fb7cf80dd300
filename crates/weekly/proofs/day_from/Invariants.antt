use Rattle.weekly.proofs.Passed.{Through}
use Rattle.weekly.proofs.day_from.Given as goal

abbrev pub invariant-loop-hour : goal.invariant-loop-hour
invariant-loop-hour l = Through l.fn.row l.seen l.hour-index
