use Rattle.modbus.specs.Replies.{link_body}
use Rattle.modbus.proofs.Laws.{flag-byte}
use Rattle.modbus.proofs.replies.send_link.Goals as goal

pub returns : goal.returns
unfolding link_body
returns c = rw (← flag-byte c.args.on) c.send.ensures
