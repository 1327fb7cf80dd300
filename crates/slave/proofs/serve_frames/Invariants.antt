use Rattle.controller.specs.Sound.{Sound}
use Rattle.slave.proofs.serve_frames.Given as goal

abbrev pub invariant-loop : goal.invariant-loop
invariant-loop l = Sound l.c
