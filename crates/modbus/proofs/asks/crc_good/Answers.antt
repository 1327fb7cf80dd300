use mathlib.Core.Path.{◌≡◌, sym}
use Prim.Native.Nat.{ℕ, ◌+◌, ◌-◌}
use native.Mathlib.Omega.{arith}
use lib.ListN.{length}
use lib.Seq.{length-take-le}
use Rattle.modbus.specs.Asks.{crc_good}
use Rattle.modbus.proofs.asks.crc_good.Goals as goal

pub slice_bounds-crc16-end : goal.slice_bounds-crc16-end
slice_bounds-crc16-end c = sym (length-take-le _ _ (omega arith))

pub returns : goal.returns
unfolding crc_good
returns c =
    let n : ℕ = length c.args.frame.now in
    let last : n - 2 + 1 ≡ n - 1 = omega arith in
    rw (c.crc16-c.ensures, last)
