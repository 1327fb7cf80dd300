-- The digits counted and those of the quotient that is left are one more than those of n.
use mathlib.Core.Path.{◌≡◌}
use Prim.Native.Nat.{◌+◌}
use lib.ListN.{length}
use Rattle.laws.specs.Decimal.{decimal}
use Rattle.text.proofs.decimal_len.Given as goal

abbrev pub invariant-loop-v : goal.invariant-loop-v
invariant-loop-v l = l.k + length (decimal l.v) ≡ length (decimal l.n) + 1

abbrev pub decreases-loop-v : goal.decreases-loop-v
decreases-loop-v l = l.v
