-- The bytes from the place on still enter.
use mathlib.Core.Path.{◌≡◌}
use lib.ListN.{drop}
use Rattle.modbus.specs.Crc.{enter_all, crc}
use Rattle.modbus.proofs.crc.crc16.Given as goal

abbrev pub invariant-loop-b : goal.invariant-loop-b
invariant-loop-b l = enter_all l.c (drop l.b-index l.bytes) ≡ crc l.bytes
