use mathlib.Core.Path.{sym, ◌∙◌}
use Prim.Native.Nat.{◌<◌}
use native.Mathlib.Omega.{arith}
use lib.ListN.{length}
use Rattle.laws.specs.Decimal.{number_at}
use Rattle.text.specs.Scan.{TAB, field_at}
use Rattle.text.specs.ScanLaws.{byte_inside, expect-hit, expect-miss}
use Rattle.text.proofs.field_at.Goals as goal
use Rattle.text.proofs.field_at.Goals.{Else-byte_at-ne-TAB}

-- the tab is one of the bytes
there : (c : Else-byte_at-ne-TAB) → c.args.at < length c.args.s.now
there c =
    let e = c.byte_at.ensures in
    let l = c.if-byte_at-ne-TAB.false in
    byte_inside c.args.s.now c.args.at (omega arith)

pub returns-then-byte_at-ne-TAB : goal.returns-then-byte_at-ne-TAB
unfolding field_at
returns-then-byte_at-ne-TAB c =
    let a = c.args in
    let e = c.byte_at.ensures in
    record { reads = expect-miss a.s.now a.at TAB (number_at a.most) (λ h. c.if-byte_at-ne-TAB.true (e ∙ h)); inside = omega arith }

pub overflow_add-at : goal.overflow_add-at
overflow_add-at c = let l = there c in omega arith

pub returns : goal.returns
unfolding field_at
returns c =
    let a = c.args in
    let e = c.byte_at.ensures in
    let n = c.number_at.ensures in
    record { reads = expect-hit a.s.now a.at TAB (number_at a.most) (omega arith) (sym e ∙ c.if-byte_at-ne-TAB.false) ∙ n.reads; inside = n.inside }
