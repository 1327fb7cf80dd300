use native.Mathlib.Omega.{arith}
use Rattle.paper.specs.AnswerLaws.{fills-none, fills-text}
use Rattle.sheet.specs.Lines.{days_text}
use Rattle.sheet.proofs.print_days.Goals as goal

pub returns-then-out-n : goal.returns-then-out-n
returns-then-out-n c = let a = c.args in fills-none a.out.now (days_text 0 a.days) (omega (arith, c.text_len-n.ensures, c.if-out-n.true))

pub put_days-requires : goal.put_days-requires
put_days-requires c = omega (arith, c.text_len-n.ensures, c.if-out-n.false)

pub returns : goal.returns
returns c =
    let a = c.args in
    let n = c.text_len-n in
    fills-text a.out.now c.put_days.new.out (days_text 0 a.days) n.result (omega (arith, n.ensures, c.if-out-n.false)) n.ensures c.put_days.ensures
