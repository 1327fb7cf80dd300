use Prim.Native.Nat.{◌+◌, ◌≤◌}
use native.Mathlib.Omega.{arith}
use lib.ListN.{length}
use Rattle.laws.specs.Decimal.{decimal}
use Rattle.entry.proofs.Storing.{stored, stores-length, stores-then}
use Rattle.entry.proofs.store_field.Goals as goal

pub returns : goal.returns
returns c =
    let b = c.store_byte-after_tab in
    let room : b.result + length (decimal c.args.v) ≤ length b.new.out = omega (arith, b.ensures.next, stores-length b.ensures, c.requires) in
    stores-then b.ensures (stored room c.put_decimal.ensures)
