use mathlib.Core.Path.{◌∙◌}
use native.Mathlib.Omega.{arith}
use borrow.Author.Rules.{rules}
use lib.Ieee.{to_unsigned}
use Rattle.laws.specs.Pick.{pick-t, pick-f}
use Rattle.text.specs.PutLaws.{digits-most}
use Rattle.report.proofs.Showing.{tally-whole, row-length}
use Rattle.report.proofs.row_len.Goals as goal
use Rattle.report.proofs.row_len.Goals.{Start}

pub overflow_add-result : goal.overflow_add-result
overflow_add-result c = omega (arith, c.decimal_len-n.ensures, digits-most c.args.hour (search rules))

pub returns-then-t : goal.returns-then-t
returns-then-t c =
    let a = c.args in
    omega (arith, c.decimal_len-n.ensures, row-length a.hour a.t ∙ pick-t _ _ _ c.if-t.true)

pub overflow_add-result-then-t-2 : goal.overflow_add-result-then-t-2
overflow_add-result-then-t-2 c = omega (arith, c.decimal_len-n.ensures, digits-most c.args.hour (search rules))

pub returns-then-t-2 : goal.returns-then-t-2
returns-then-t-2 c =
    let a = c.args in
    omega (arith, c.decimal_len-n.ensures, row-length a.hour a.t ∙ pick-f _ _ _ c.if-t.false ∙ pick-t _ _ _ c.if-t-2.true)

pub overflow_add-result-2 : goal.overflow_add-result-2
overflow_add-result-2 c = omega (arith, c.decimal_len-n.ensures, digits-most c.args.hour (search rules))

pub overflow_add-result-3 : goal.overflow_add-result-3
overflow_add-result-3 c =
    let a = c.args in
    omega (arith, c.decimal_len-n.ensures, digits-most a.hour (search rules), c.decimal_len.ensures, digits-most a.t.doses (search rules))

pub float_to_int-t : goal.float_to_int-t
float_to_int-t c =
    let s = (goal.at.float_to_int-t c).Start in
    (tally-whole s.args.t s.requires).0

pub overflow_add-result-4 : goal.overflow_add-result-4
overflow_add-result-4 c =
    let s = (goal.at.overflow_add-result-4 c).Start in
    let a = s.args in
    omega (arith, c.decimal_len-n.ensures, digits-most a.hour (search rules), c.decimal_len.ensures, digits-most a.t.doses (search rules), c.decimal_len-2.ensures, digits-most (to_unsigned 64 a.t.sum) (omega (arith, (tally-whole a.t s.requires).1)))

pub returns : goal.returns
returns c =
    let a = c.args in
    omega (arith, c.decimal_len-n.ensures, c.decimal_len.ensures, c.decimal_len-2.ensures, row-length a.hour a.t ∙ pick-f _ _ _ c.if-t.false ∙ pick-f _ _ _ c.if-t-2.false)
