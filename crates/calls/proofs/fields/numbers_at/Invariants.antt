-- What is left from the next number on, after those that are there, gives the whole row.
use mathlib.Core.Path.{◌≡◌}
use Prim.Native.Nat.{◌-◌}
use lib.ListN.{length, drop}
use Rattle.calls.specs.Call.{row_from, numbers_field}
use Rattle.calls.proofs.fields.numbers_at.Given as goal

abbrev pub invariant-loop-k : goal.invariant-loop-k
invariant-loop-k l = (length l.values ≡ 19) × (row_from l.values l.k (l.n - l.k) (drop l.p l.s) ≡ numbers_field l.n (drop l.at l.s))
