use mathlib.Core.Path.{sym, ap, ◌∙◌}
use mathlib.Core.List.{List}
use Prim.Native.Nat.{ℕ}
use native.Mathlib.Omega.{arith}
use Rattle.operands.specs.Parsing.{on-good, on-bad, good-as}
use Rattle.calls.specs.Call.{bytes, bytes_call}
use Rattle.calls.specs.Reads.{as_call, size_of, Within}
use Rattle.calls.proofs.Steps.{unasked, asked, some_bytes, no_bytes, whole, few}
use Rattle.calls.proofs.asks.alone.Goals as goal

pub returns : goal.returns
unfolding bytes_call as_call size_of Within
returns c =
    let n = c.count-n.ensures in
    let a = c.args in
    asked c.ended.ensures
    (on-good _ (some_bytes a.line.now (sym c.byte_at.ensures ∙ c.if-byte_at-ne-TAB.false) n))
    (good-as (ap (λ (l : List ℕ). bytes a.made l 0) (whole n)))
    (omega (arith, n))
    (omega (arith, few _ n c.requires))

pub returns-then-byte_at-ne-TAB : goal.returns-then-byte_at-ne-TAB
unfolding bytes_call
returns-then-byte_at-ne-TAB c = unasked (on-bad _ (no_bytes c.args.line.now (λ e. c.if-byte_at-ne-TAB.true (c.byte_at.ensures ∙ e))))

pub overflow_mul-n : goal.overflow_mul-n
overflow_mul-n c = omega (arith, few _ c.count-n.ensures c.requires)

pub overflow_add-n : goal.overflow_add-n
overflow_add-n c = omega (arith, few _ c.count-n.ensures c.requires)

pub overflow_cast-n : goal.overflow_cast-n
overflow_cast-n c = omega (arith, few _ c.count-n.ensures c.requires)
