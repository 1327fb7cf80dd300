use Rattle.modbus.specs.Asks.{address_good}
use Rattle.modbus.proofs.asks.address_good.Goals as goal

pub returns : goal.returns
unfolding address_good
returns c = rw c.byte_at-to.ensures
