-- As long as all were digits, k bytes stand at the place, and the others behind them.
use mathlib.Core.Path.{◌≡◌}
use mathlib.Core.Bool.{true}
use Prim.Native.Nat.{ℕ, ◌+◌, ◌*◌}
use Rattle.operands.specs.Bytes.{standing}
use Rattle.operands.proofs.all_hex.Given as goal

abbrev pub invariant-loop-k : goal.invariant-loop-k
invariant-loop-k l = l.good ≡ true → (p : ℕ) → p ≡ l.at + 2 * l.k → standing l.s l.at ≡ l.k + standing l.s p
