-- 8 - counter shifts are still to come.
use mathlib.Core.Path.{◌≡◌}
use Prim.Native.Nat.{◌-◌}
use Rattle.modbus.specs.Crc.{shifts, enter}
use Rattle.modbus.proofs.crc.enter.Given as goal

abbrev pub invariant-loop : goal.invariant-loop
invariant-loop l = shifts (8 - l.counter) l.s ≡ enter l.c l.b
