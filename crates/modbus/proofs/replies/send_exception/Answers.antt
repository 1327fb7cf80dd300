use Rattle.modbus.specs.Replies.{exception_body}
use Rattle.modbus.proofs.replies.send_exception.Goals as goal

pub returns : goal.returns
unfolding exception_body
returns c = rw (← c.top_bit.ensures) c.send.ensures
