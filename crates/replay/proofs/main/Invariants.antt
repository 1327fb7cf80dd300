use Rattle.controller.specs.Sound.{Sound}
use Rattle.replay.proofs.main.Given as goal

abbrev pub invariant-loop : goal.invariant-loop
invariant-loop l = Sound l.c
