use Prim.Native.Nat.{◌-◌, ◌≤◌}
use lib.ListN.{length}
use Rattle.acts.specs.Script.{Brings}
use Rattle.runs.proofs.ticks.Given as goal

abbrev pub invariant-loop-tick : goal.invariant-loop-tick
invariant-loop-tick l = Brings l.initial.c l.initial.held l.input l.c l.held × (length l.input - l.held.at ≤ length l.input - l.initial.held.at)

abbrev pub decreases-loop-tick : goal.decreases-loop-tick
decreases-loop-tick l = length l.input - l.held.at
