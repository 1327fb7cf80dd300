use native.Mathlib.Omega.{arith}
use Rattle.paper.specs.AnswerLaws.{fills-none, fills-text}
use Rattle.report.specs.Table.{text_by}
use Rattle.report.proofs.print_table.Goals as goal

pub returns-then-out-n : goal.returns-then-out-n
returns-then-out-n c = fills-none _ _ (omega (arith, c.text_len-n.ensures, c.if-out-n.true))

pub returns : goal.returns
returns c =
    let a = c.args in
    fills-text a.out.now c.put_rows.new.out (text_by a.table.now a.first) c.text_len-n.result (omega (arith, c.text_len-n.ensures, c.if-out-n.false)) c.text_len-n.ensures c.put_rows.ensures
