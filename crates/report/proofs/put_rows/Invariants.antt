use mathlib.Core.Path.{◌≡◌}
use Prim.Native.Nat.{◌+◌}
use lib.ListN.{length}
use lib.Seq.{sets}
use Rattle.report.specs.Table.{text_by}
use Rattle.report.proofs.Printing.{rest_by}
use Rattle.report.proofs.put_rows.Given as goal

abbrev pub invariant-loop-k : goal.invariant-loop-k
invariant-loop-k l = (l.at + length (rest_by l.table l.first l.k) ≡ length (text_by l.table l.first)) × (sets l.out l.at (rest_by l.table l.first l.k) ≡ sets l.initial.out 0 (text_by l.table l.first))
