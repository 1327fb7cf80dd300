use mathlib.Core.Path.{ap, ◌∙◌}
use mathlib.Core.List.{List}
use Prim.Native.Nat.{ℕ}
use native.Mathlib.Omega.{arith}
use lib.Bits.{bit_xor}
use lib.ListN.{get_or}
use Rattle.frame.specs.Table.{by-table}
use Rattle.frame.proofs.enter.Goals as goal

pub returns : goal.returns
returns c = ap (λ (t : List ℕ). bit_xor (get_or t c.args.s 0) c.args.x) c.requires ∙ by-table c.args.s c.args.x (omega arith) (omega arith)
