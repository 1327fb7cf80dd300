use mathlib.Core.Path.{ap, sym, ◌∙◌}
use Prim.Native.Nat.{◌+◌, ◌≤◌}
use native.Mathlib.Omega.{arith}
use lib.ListN.{length}
use lib.Seq.{sets}
use Rattle.hourly.specs.Text.{row_text}
use Rattle.report.specs.Table.{says_shown}
use Rattle.report.proofs.Printing.{rest-whole, rest-length, rest-stored, rest-none}
use Rattle.report.proofs.put_rows.Goals as goal
use Rattle.report.proofs.put_rows.Goals.{After-shown_from}

-- the next row has room
room : (c : After-shown_from) → c.loop-k.at + length (row_text (c.args.first + c.loop-k.k) (says_shown c.shown_from.result)) ≤ length c.loop-k.out
room c =
    let e = rest-length c.args.table.now c.args.first c.loop-k.k (says_shown c.shown_from.result) c.loop-k-test.true c.shown_from.ensures in
    omega (arith, e, c.loop-k.invariant.0, c.loop-k.auto.out, c.requires.room)

pub loop-k-init : goal.loop-k-init
loop-k-init c = let e = rest-whole c.args.table.now c.args.first in (omega (arith, ap length e), ap (sets c.args.out.now 0) e)

pub put_row-at-requires : goal.put_row-at-requires
put_row-at-requires c = room (goal.at.put_row-at-requires c).After-shown_from

pub loop-k-preserved : goal.loop-k-preserved
loop-k-preserved c =
    let a = c.args in
    let l = c.loop-k in
    let row = says_shown c.shown_from.result in
    let e = rest-length a.table.now a.first l.k row c.loop-k-test.true c.shown_from.ensures in
    let s = rest-stored a.table.now a.first l.k row l.out c.put_row-at.new.out _ l.at c.put_row-at.result c.loop-k-test.true c.shown_from.ensures (room (goal.at.loop-k-preserved c).After-shown_from) c.put_row-at.ensures l.invariant.1 in
    (omega (arith, s.1, e, l.invariant.0), s.0)

pub returns : goal.returns
returns c =
    let l = c.loop-k in
    ap (sets l.out l.at) (sym (rest-none c.args.table.now c.args.first l.k c.loop-k-test.false)) ∙ l.invariant.1
