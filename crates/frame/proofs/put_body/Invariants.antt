-- The bytes from the index on are still to be put.
use mathlib.Core.Path.{◌≡◌}
use Prim.Native.Nat.{◌+◌}
use lib.ListN.{length, drop}
use lib.Seq.{sets}
use Rattle.frame.specs.Frame.{sent}
use Rattle.frame.proofs.put_body.Given as goal

abbrev pub invariant-loop-b : goal.invariant-loop-b
invariant-loop-b l =
    (l.to + length (sent (drop l.b-index l.body)) ≡ l.at + length (sent l.body)) × ((length l.out ≡ length l.initial.out) × (sets l.out l.to (sent (drop l.b-index l.body)) ≡ sets l.initial.out l.at (sent l.body)))
