use mathlib.Core.Path.{ap, ◌∙◌}
use Rattle.modbus.specs.Replies.{link_after}
use Rattle.modbus.proofs.Laws.{not-write}
use Rattle.modbus.proofs.replies.link_after.Goals as goal

pub returns-in-ForAll : goal.returns-in-ForAll
unfolding link_after
returns-in-ForAll c = rw c.in-ForAll.is

pub returns-in-Link : goal.returns-in-Link
unfolding link_after
returns-in-Link c = rw (c.in-Ours.is, c.in-Link.is)

pub returns-in_default : goal.returns-in_default
returns-in_default c = rw c.in-Ours.is (not-write c.in-Ours.ask c.args.now c.in_default.not-Link)
