use mathlib.Core.Path.{ap, sym}
use lib.ListN.{length}
use Rattle.frame.specs.FrameLaws.{sent-FF, sent-plain}
use Rattle.frame.proofs.byte_len.Goals as goal

pub returns-then-b-eq255 : goal.returns-then-b-eq255
returns-then-b-eq255 c = sym (ap length (sent-FF _ c.if-b-eq255.true))

pub returns-else-b-eq255 : goal.returns-else-b-eq255
returns-else-b-eq255 c = sym (ap length (sent-plain _ c.if-b-eq255.false))
