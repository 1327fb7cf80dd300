-- What is left from the next byte on, after the value so far, gives the whole number.
use mathlib.Core.Path.{◌≡◌}
use Prim.Native.Nat.{◌+◌, ◌*◌, ◌-◌, ◌≤◌}
use lib.ListN.{length, drop}
use Rattle.laws.specs.Decimal.{number_at}
use Rattle.text.proofs.Scanning.{onward}
use Rattle.text.proofs.number_at.Given as goal

abbrev pub invariant-loop-v : goal.invariant-loop-v
invariant-loop-v l = (l.i ≤ length l.s) × (l.v ≤ l.most * 10 + 9) × (number_at l.most (drop l.at l.s) ≡ onward l.most l.v (drop l.i l.s))

abbrev pub decreases-loop-v : goal.decreases-loop-v
decreases-loop-v l = length l.s - l.i
