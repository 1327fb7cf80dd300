use mathlib.Core.Path.{◌≡◌}
use lib.ListN.{length, take}
use lib.Seq.{sets}
use Rattle.operands.specs.Bytes.{carried}
use Rattle.calls.proofs.fields.store.Given as goal

abbrev pub invariant-loop-k : goal.invariant-loop-k
invariant-loop-k l = (length l.out ≡ length l.initial.out) × (l.out ≡ sets l.initial.out 0 (take l.k (carried l.s)))
