use Rattle.channels.specs.Channels.{input, start_of}
use Rattle.channels.proofs.start_of.Goals as goal

pub returns : goal.returns
unfolding start_of input
returns c = rw c.has_bit.ensures
