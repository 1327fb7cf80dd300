use mathlib.Core.Path.{◌≡◌, sym, ap, ◌∙◌}
use Prim.Native.Nat.{ℕ, ◌+◌, ◌*◌}
use native.Mathlib.Omega.{arith}
use lib.ListN.{get_or}
use Rattle.operands.specs.Bytes.{hex_value, two, carried, Digits, digits-at}
use Rattle.calls.proofs.fields.byte_of.Goals as goal
use Rattle.calls.proofs.fields.byte_of.Goals.{Start}

digits : (c : Start) → Digits c.args.s.now (2 + 2 * c.args.k) (get_or (carried c.args.s.now) c.args.k 0)
unfolding carried
digits c = digits-at c.args.k c.args.s.now 2 c.requires

-- the place of the second digit
second : (c : Start) → 2 + 2 * c.args.k + 1 ≡ 3 + 2 * c.args.k
second c = omega arith

pub returns : goal.returns
unfolding two
returns c =
    let start = (goal.at.returns c).Start in
    let d = rw (second start) at (digits start).value in
    ap (λ (x : ℕ). x * 16 + c.hex_value-2.result) c.hex_value.ensures.0
    ∙ ap (λ (x : ℕ). hex_value (get_or start.args.s.now (2 + 2 * start.args.k) 0) * 16 + x) c.hex_value-2.ensures.0
    ∙ sym d

pub overflow_mul-k : goal.overflow_mul-k
overflow_mul-k c = omega (arith, (digits (goal.at.overflow_mul-k c).Start).inside)

pub overflow_add-k : goal.overflow_add-k
overflow_add-k c = omega (arith, (digits (goal.at.overflow_add-k c).Start).inside)

pub bounds-s-k : goal.bounds-s-k
bounds-s-k c = omega (arith, (digits (goal.at.bounds-s-k c).Start).inside)

pub overflow_mul-k-2 : goal.overflow_mul-k-2
overflow_mul-k-2 c = omega (arith, (digits (goal.at.overflow_mul-k-2 c).Start).inside)

pub overflow_add-k-2 : goal.overflow_add-k-2
overflow_add-k-2 c = omega (arith, (digits (goal.at.overflow_add-k-2 c).Start).inside)

pub bounds-s-k-2 : goal.bounds-s-k-2
bounds-s-k-2 c = omega (arith, (digits (goal.at.bounds-s-k-2 c).Start).inside)

pub hex_value-requires : goal.hex_value-requires
hex_value-requires c = (digits (goal.at.hex_value-requires c).Start).high

pub hex_value-requires-2 : goal.hex_value-requires-2
hex_value-requires-2 c = let start = (goal.at.hex_value-requires-2 c).Start in rw (second start) at (digits start).low

pub overflow_mul-result : goal.overflow_mul-result
overflow_mul-result c = omega (arith, c.hex_value.ensures.1)

pub overflow_add-result : goal.overflow_add-result
overflow_add-result c = omega (arith, c.hex_value-2.ensures.1, c.hex_value.ensures.1)
