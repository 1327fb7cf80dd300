use Prim.Native.Nat.{◌-◌, ◌≤◌}
use lib.ListN.{length}
use Rattle.acts.specs.Script.{Brings}
use Rattle.runs.proofs.answer.Given as goal

abbrev pub invariant-loop-from : goal.invariant-loop-from
invariant-loop-from l = Brings l.initial.c l.initial.held l.input l.c l.held × (length l.input - l.held.at ≤ length l.input - l.initial.held.at)

abbrev pub decreases-loop-from : goal.decreases-loop-from
decreases-loop-from l = length l.input - l.held.at
