use Rattle.hourly.proofs.Settling.{Setting}
use Rattle.hourly.proofs.with_holes.Given as goal

abbrev pub invariant-loop-k : goal.invariant-loop-k
invariant-loop-k l = Setting l.fn.table l.fn.holed l.k l.marked
