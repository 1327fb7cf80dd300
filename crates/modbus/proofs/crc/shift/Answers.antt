use borrow.Author.Tests.{eq-eqb, ne_eqb}
use Rattle.modbus.specs.Crc.{shift, fell_out}
use Rattle.modbus.proofs.crc.shift.Goals as goal

pub returns-then-c-eq1 : goal.returns-then-c-eq1
unfolding shift fell_out
returns-then-c-eq1 c = rw (eq-eqb _ _ c.if-c-eq1.true)

pub returns-else-c-eq1 : goal.returns-else-c-eq1
unfolding shift fell_out
returns-else-c-eq1 c = rw (ne_eqb _ _ c.if-c-eq1.false)
