use borrow.Author.Tests.{leb-true}
use native.Mathlib.Omega.{arith}
use mathlib.Core.Path.{◌≡◌, ap, sym}
use Prim.Native.Nat.{ℕ, ◌+◌, ◌≤◌}
use lib.ListN.{length}
use Rattle.laws.specs.Pick.{so}
use Rattle.laws.specs.Decimal.{hex_of}
use Rattle.laws.specs.DecimalLaws.{hex-length}
use Rattle.text.specs.PutLaws.{fit-puts, none-puts}
use Rattle.text.proofs.Laws.{room-told}
use Rattle.text.proofs.put_hex.Goals as goal

pub store_hex-requires : goal.store_hex-requires
store_hex-requires c = leb-true _ _ (so c.has_room.ensures c.if-has_room.true)

pub overflow_add-result : goal.overflow_add-result
overflow_add-result c =
    let a = c.args in
    let h : a.at + a.digits ≤ length a.out.now = leb-true _ _ (so c.has_room.ensures c.if-has_room.true) in
    omega (arith, c.well_formed)

pub returns-then-has_room : goal.returns-then-has_room
returns-then-has_room c =
    let a = c.args in
    let e : a.digits ≡ length (hex_of a.digits a.n) = sym (hex-length a.digits a.n) in
    fit-puts (room-told _ _ _ _ e c.has_room.ensures c.if-has_room.true) c.store_hex.ensures (ap (λ (j : ℕ). a.at + j) e)

pub returns : goal.returns
returns c =
    let a = c.args in
    none-puts _ _ _ (room-told _ _ _ _ (sym (hex-length a.digits a.n)) c.has_room.ensures c.if-has_room.false)
