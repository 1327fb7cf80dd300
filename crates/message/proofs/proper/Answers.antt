use Rattle.message.specs.Message.{proper}
use Rattle.message.proofs.proper.Goals as goal

pub returns-in-Address : goal.returns-in-Address
unfolding proper
returns-in-Address c = rw c.in-Address.is

pub returns-in-Serial : goal.returns-in-Serial
unfolding proper
returns-in-Serial c = rw c.in-Serial.is
