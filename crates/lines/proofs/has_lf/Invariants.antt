-- As long as no LF was found, a line ends from here on where it ends from the start.
use mathlib.Core.Path.{◌≡◌}
use mathlib.Core.Bool.{false}
use Prim.Native.Nat.{ℕ, ◌+◌}
use Rattle.lines.specs.Places.{end_of}
use Rattle.lines.proofs.has_lf.Given as goal

abbrev pub invariant-loop-b : goal.invariant-loop-b
invariant-loop-b l = l.found ≡ false → (i : ℕ) → i ≡ l.at + l.b-index → end_of l.block i ≡ end_of l.block l.at
