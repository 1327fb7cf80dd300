use Prim.Native.Nat.{◌-◌}
use lib.ListN.{length}
use Rattle.acts.specs.Script.{Brings}
use Rattle.blocks.proofs.answer.Given as goal

abbrev pub invariant-loop-call : goal.invariant-loop-call
invariant-loop-call l = Brings l.initial.c l.initial.held l.input l.c l.held

abbrev pub decreases-loop-call : goal.decreases-loop-call
decreases-loop-call l = length l.input - l.held.at
