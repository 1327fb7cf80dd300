use Rattle.controller.specs.Sound.{Sound}
use Rattle.boundary.proofs.opens_on.Given as goal

abbrev pub invariant-loop-tick : goal.invariant-loop-tick
invariant-loop-tick l = Sound l.last.next
