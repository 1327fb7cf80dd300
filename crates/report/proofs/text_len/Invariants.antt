use mathlib.Core.Path.{◌≡◌}
use Prim.Native.Nat.{◌+◌}
use lib.ListN.{length}
use Rattle.report.specs.Table.{text_by}
use Rattle.report.proofs.Printing.{rest_by}
use Rattle.report.proofs.text_len.Given as goal

abbrev pub invariant-loop-k : goal.invariant-loop-k
invariant-loop-k l = l.n + length (rest_by l.table l.first l.k) ≡ length (text_by l.table l.first)
