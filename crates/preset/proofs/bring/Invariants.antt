use Prim.Native.Nat.{◌-◌}
use lib.ListN.{length}
use Rattle.acts.specs.Script.{Brings}
use Rattle.preset.proofs.bring.Given as goal

abbrev pub invariant-loop-from : goal.invariant-loop-from
invariant-loop-from l = Brings l.initial.c l.initial.held l.input l.c l.held

abbrev pub decreases-loop-from : goal.decreases-loop-from
decreases-loop-from l = length l.input - l.held.at
