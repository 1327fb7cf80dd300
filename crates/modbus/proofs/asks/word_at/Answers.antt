use Rattle.modbus.specs.Asks.{word_at}
use Rattle.modbus.proofs.asks.word_at.Goals as goal

pub returns : goal.returns
unfolding word_at
returns c = rw (c.byte_at-high.ensures, c.byte_at-low.ensures)
