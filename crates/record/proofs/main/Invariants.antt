use Rattle.recorder.specs.Recording.{Carries}
use Rattle.record.proofs.main.Given as goal

abbrev pub invariant-loop : goal.invariant-loop
invariant-loop l = Carries l.state
