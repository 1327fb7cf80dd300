-- What is left to read from place i on gives the whole reading.
use mathlib.Core.Path.{◌≡◌}
use mathlib.Core.List.{List}
use Prim.Native.Nat.{ℕ, ◌-◌, ◌≤◌}
use lib.ListN.{length, drop}
use Rattle.frame.specs.Read.{run, read_all}
use Rattle.frame.specs.Stands.{stands, Held}
use Rattle.frame.specs.declared.State.{State}
use Rattle.frame.proofs.scan.Given as goal

-- with this state and buffer the bytes from place i on give the reading of all
pub record Left (s buf : List ℕ) (st : State) (i : ℕ) : Type 0 where
  pub inside : i ≤ length s
  pub same : run (stands st buf) i (drop i s) ≡ read_all s
  pub held : Held st buf

abbrev pub invariant-loop-i : goal.invariant-loop-i
invariant-loop-i l = Left l.bytes l.buf l.st l.i

abbrev pub decreases-loop-i : goal.decreases-loop-i
decreases-loop-i l = length l.bytes - l.i
