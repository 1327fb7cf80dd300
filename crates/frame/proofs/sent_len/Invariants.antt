-- The bytes from the index on are still to be counted.
use mathlib.Core.Path.{◌≡◌}
use Prim.Native.Nat.{◌≤◌, ◌+◌, ◌*◌}
use lib.ListN.{length, drop}
use Rattle.frame.specs.Frame.{sent}
use Rattle.frame.proofs.sent_len.Given as goal

abbrev pub invariant-loop-b : goal.invariant-loop-b
invariant-loop-b l = (l.n + length (sent (drop l.b-index l.body)) ≡ length (sent l.body)) × (l.n ≤ 2 * l.b-index)
