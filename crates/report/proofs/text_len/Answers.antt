use mathlib.Core.Path.{refl, ap}
use native.Mathlib.Omega.{arith}
use lib.ListN.{length}
use Rattle.report.proofs.Printing.{rest-whole, rest-length, rest-none}
use Rattle.report.proofs.text_len.Goals as goal

pub loop-k-init : goal.loop-k-init
loop-k-init c = omega (arith, ap length (rest-whole c.args.table.now c.args.first))

pub overflow_add-n : goal.overflow_add-n
overflow_add-n c =
    let e = rest-length c.args.table.now c.args.first c.loop-k.k _ c.loop-k-test.true refl in
    omega (arith, c.row_len-n.ensures, e, c.loop-k.invariant, c.requires.short)

pub loop-k-preserved : goal.loop-k-preserved
loop-k-preserved c =
    let e = rest-length c.args.table.now c.args.first c.loop-k.k _ c.loop-k-test.true refl in
    omega (arith, c.row_len-n.ensures, e, c.loop-k.invariant)

pub returns : goal.returns
returns c = omega (arith, c.loop-k.invariant, ap length (rest-none c.args.table.now c.args.first c.loop-k.k (c.loop-k-test.false)))
