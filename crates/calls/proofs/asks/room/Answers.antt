use mathlib.Core.Path.{sym, ap, ◌∙◌}
use mathlib.Core.List.{List}
use Prim.Native.Nat.{ℕ}
use native.Mathlib.Omega.{arith}
use Rattle.operands.specs.Parsing.{on-good, on-bad, good-as, num, field-most}
use Rattle.calls.specs.Call.{room_at}
use Rattle.calls.proofs.Steps.{unasked, asked, some_bytes, no_bytes, whole, few}
use Rattle.calls.proofs.asks.room.Goals as goal

pub returns : goal.returns
unfolding room_at
returns g c = λ call made.
    let n = c.count-n.ensures in
    let e = made _ _ _ (omega (arith, few _ c.count-n.ensures c.requires.line)) (field-most _ _ (num c.field_at.ensures c.in-Some.is)) c.call.ensures in
    let a = c.args in
    asked c.ended.ensures
    (on-good _ (some_bytes a.line.now (sym c.byte_at.ensures ∙ c.if-byte_at-ne-TAB.false) n) ∙ on-good _ (num c.field_at.ensures c.in-Some.is))
    (good-as (ap (λ (l : List ℕ). call l c.in-Some.number) (whole n)) ∙ e.reads _)
    (omega (arith, e.size, n))
    e.within

pub returns-then-byte_at-ne-TAB : goal.returns-then-byte_at-ne-TAB
unfolding room_at
returns-then-byte_at-ne-TAB g c = λ call made. unasked (on-bad _ (no_bytes c.args.line.now (λ e. c.if-byte_at-ne-TAB.true (c.byte_at.ensures ∙ e))))

pub overflow_mul-n : goal.overflow_mul-n
overflow_mul-n g c = omega (arith, few _ c.count-n.ensures c.requires.line)

pub overflow_add-n : goal.overflow_add-n
overflow_add-n g c = omega (arith, few _ c.count-n.ensures c.requires.line)

pub returns-in_default : goal.returns-in_default
unfolding room_at
returns-in_default g c = λ call made. unasked (on-good _ (some_bytes c.args.line.now (sym c.byte_at.ensures ∙ c.if-byte_at-ne-TAB.false) c.count-n.ensures) ∙ on-bad _ (num c.field_at.ensures c.in_default.is))

pub overflow_cast-n : goal.overflow_cast-n
overflow_cast-n g c = omega (arith, few _ c.count-n.ensures c.requires.line)
