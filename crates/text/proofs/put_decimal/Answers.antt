use borrow.Author.Tests.{leb-true}
use native.Mathlib.Omega.{arith}
use mathlib.Core.Path.{ap}
use Prim.Native.Nat.{ℕ, ◌+◌, ◌≤◌}
use lib.ListN.{length}
use Rattle.laws.specs.Pick.{so}
use Rattle.text.specs.PutLaws.{fit-puts, none-puts}
use Rattle.text.proofs.Laws.{room-told}
use Rattle.text.proofs.put_decimal.Goals as goal

pub store_decimal-requires : goal.store_decimal-requires
store_decimal-requires c =
    record { digits = c.decimal_len-k.ensures; room = leb-true _ _ (so c.has_room.ensures c.if-has_room.true) }

pub overflow_add-result : goal.overflow_add-result
overflow_add-result c =
    let a = c.args in
    let k = c.decimal_len-k.result in
    let h : a.at + k ≤ length a.out.now = leb-true _ _ (so c.has_room.ensures c.if-has_room.true) in
    omega (arith, c.well_formed)

pub returns-then-has_room : goal.returns-then-has_room
returns-then-has_room c =
    let a = c.args in
    let e = c.decimal_len-k.ensures in
    fit-puts (room-told _ _ _ _ e c.has_room.ensures c.if-has_room.true) c.store_decimal.ensures (ap (λ (j : ℕ). a.at + j) e)

pub returns : goal.returns
returns c = none-puts _ _ _ (room-told _ _ _ _ c.decimal_len-k.ensures c.has_room.ensures c.if-has_room.false)
