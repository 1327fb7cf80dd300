use mathlib.Core.Path.{◌≡◌}
use Prim.Native.Nat.{◌+◌, ◌-◌, ◌≤◌}
use lib.ListN.{length}
use Rattle.operands.specs.Bytes.{standing}
use Rattle.operands.proofs.count_from.Given as goal

abbrev pub invariant-loop-p : goal.invariant-loop-p
invariant-loop-p l = (l.n ≤ l.p) × (l.p ≤ length l.s + 2) × (l.n + standing l.s l.p ≡ standing l.s 2)

abbrev pub decreases-loop-p : goal.decreases-loop-p
decreases-loop-p l = length l.s + 2 - l.p
