-- What is left to store gives the whole: the digits of v, the last of them before p, or none.
use mathlib.Core.Path.{◌≡◌}
use Prim.Native.Nat.{◌+◌, ◌≤◌, ◌<◌}
use lib.ListN.{length}
use lib.Seq.{sets}
use Rattle.laws.specs.Decimal.{decimal}
use Rattle.text.proofs.store_decimal.Given as goal

abbrev pub invariant-loop-p : goal.invariant-loop-p
invariant-loop-p l =
    (length l.out ≡ length l.initial.out)
    × (l.at < l.p → (l.p ≡ l.at + length (decimal l.v)) × (sets l.out l.at (decimal l.v) ≡ sets l.initial.out l.at (decimal l.n)))
    × (l.p ≤ l.at → l.out ≡ sets l.initial.out l.at (decimal l.n))
