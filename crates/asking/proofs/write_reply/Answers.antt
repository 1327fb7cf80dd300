-- The data stand in an array of 4.
use Rattle.asking.specs.Asking.{reply_of}
use Rattle.asking.proofs.write_reply.Goals as goal

pub returns : goal.returns
unfolding reply_of
returns c = rw c.data_of-len.ensures.front at c.frame_reply.ensures
