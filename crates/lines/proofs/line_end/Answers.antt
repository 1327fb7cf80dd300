use mathlib.Core.Path.{◌∙◌}
use Prim.Native.Nat.{◌+◌}
use native.Mathlib.Omega.{arith}
use Rattle.lines.proofs.Ends.{end_all}
use Rattle.lines.proofs.line_end.Goals as goal
use Rattle.lines.proofs.line_end.Goals.{else-loop-i-test, then-loop-i-test+else-block-i-lt16+else-has_lf+else-i-end-i-gt16}

pub returns : goal.returns
returns c =
    let a = c.args in
    let inv = c.loop-i.invariant in
    elim c.loop-i-test.branch [
      | else-loop-i-test w ↦ c.max.ensures ∙ end_all a.block.now a.at c.loop-i.i w.loop-i-test.false inv.1 inv.0
      | then-loop-i-test+else-block-i-lt16+else-has_lf+else-i-end-i-gt16 w ↦
          c.max.ensures ∙ end_all a.block.now a.at (c.loop-i.i + 16) (omega arith) (omega arith) (w.has_lf.ensures w.if-has_lf.false ∙ inv.0)
    ]
