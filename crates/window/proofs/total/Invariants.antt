-- The sum so far is that of the samples passed; each is an i32, so an i64 holds it.
use lib.ListN.{take}
use Rattle.window.specs.Range.{Total}
use Rattle.window.proofs.total.Given as goal

abbrev pub invariant-loop-x : goal.invariant-loop-x
invariant-loop-x l = Total (take l.x-index l.s) (l.sum)
