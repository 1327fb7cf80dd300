use Rattle.controller.specs.Sound.{Sound}
use Rattle.slave.proofs.set_up.Given as goal

abbrev pub invariant-loop : goal.invariant-loop
invariant-loop l = Sound l.brought.controller
