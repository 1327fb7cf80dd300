-- What was seen is the samples passed, one after the other.
use lib.IntN.{pos}
use lib.ListN.{take, get_or}
use Rattle.window.specs.Pass.{start_of, Passed}
use Rattle.window.proofs.pass.Given as goal

abbrev pub invariant-loop-x : goal.invariant-loop-x
invariant-loop-x l = Passed (start_of (get_or l.s 0 (pos 0))) (take l.x-index l.s) l.seen
