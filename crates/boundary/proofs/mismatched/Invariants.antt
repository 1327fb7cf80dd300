use Rattle.controller.specs.Sound.{Sound}
use Rattle.boundary.proofs.mismatched.Given as goal

abbrev pub invariant-loop : goal.invariant-loop
invariant-loop l = Sound l.last.next
