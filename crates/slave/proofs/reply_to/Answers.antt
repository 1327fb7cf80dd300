use Rattle.slave.specs.Serves.{replies}
use Rattle.slave.proofs.reply_to.Goals as goal

pub returns : goal.returns
returns c = replies c.poll-polled.result c.poll-polled.ensures c.len_of.ensures
