use mathlib.Core.Path.{refl, sym, ap, ◌∙◌}
use Prim.Native.Nat.{ℕ, ◌+◌, ◌*◌}
use native.Mathlib.Omega.{arith}
use lib.ListN.{get_or, drop}
use borrow.Author.Tests.{eq-eqb, ne_eqb}
use Rattle.laws.specs.Pick.{pick-t, pick-f}
use Rattle.laws.specs.Decimal.{good}
use Rattle.field.specs.Field.{four}
use Rattle.operands.specs.Parsing.{on-good, on-bad}
use Rattle.operands.specs.Bytes.{carried}
use Rattle.calls.specs.Call.{item, read_field_at}
use Rattle.calls.specs.Reads.{as_call, size_of, Within}
use Rattle.calls.specs.declared.Item.TheVariants.{Field}
use Rattle.calls.proofs.Steps.{unasked, asked, some_bytes, no_bytes}
use Rattle.calls.proofs.asks.four.Goals as goal

pub returns-then-count-ne4 : goal.returns-then-count-ne4
unfolding read_field_at
returns-then-count-ne4 c =
    let n = c.count.ensures in
    unasked (on-good _ (some_bytes c.args.line.now (sym c.byte_at.ensures ∙ c.if-byte_at-ne-TAB.false) n) ∙ pick-f _ _ _ (ne_eqb _ _ (λ f. c.if-count-ne4.true (n ∙ f))))

pub returns : goal.returns
unfolding read_field_at as_call size_of Within
returns c =
    let s = c.args.line.now in
    let b = carried s in
    let n = c.count.ensures in
    let f = c.if-count-ne4.false in
    asked c.ended.ensures
    (on-good _ (some_bytes s (sym c.byte_at.ensures ∙ c.if-byte_at-ne-TAB.false) n) ∙ pick-t _ _ _ (eq-eqb _ _ (sym n ∙ f)) ∙ ap (λ (i : ℕ). good (item (Field (four (get_or b 0 0) (get_or b 1 0) (get_or b 2 0) (get_or b 3 0)))) (drop (2 + 2 * i) s)) f)
    (rw (c.byte_of.ensures, c.byte_of-2.ensures, c.byte_of-3.ensures, c.byte_of-4.ensures) refl)
    (omega arith)
    tt

pub returns-then-byte_at-ne-TAB : goal.returns-then-byte_at-ne-TAB
unfolding read_field_at
returns-then-byte_at-ne-TAB c = unasked (on-bad _ (no_bytes c.args.line.now (λ e. c.if-byte_at-ne-TAB.true (c.byte_at.ensures ∙ e))))

pub byte_of-requires : goal.byte_of-requires
byte_of-requires c = omega (arith, c.if-count-ne4.false, c.count.ensures)

pub byte_of-requires-2 : goal.byte_of-requires-2
byte_of-requires-2 c = omega (arith, c.if-count-ne4.false, c.count.ensures)

pub byte_of-requires-3 : goal.byte_of-requires-3
byte_of-requires-3 c = omega (arith, c.if-count-ne4.false, c.count.ensures)

pub byte_of-requires-4 : goal.byte_of-requires-4
byte_of-requires-4 c = omega (arith, c.if-count-ne4.false, c.count.ensures)
