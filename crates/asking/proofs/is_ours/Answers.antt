use Rattle.asking.specs.Asking.{ours}
use Rattle.asking.proofs.is_ours.Goals as goal

pub returns-in-Address : goal.returns-in-Address
unfolding ours
returns-in-Address c = rw c.in-Address.is

pub returns-in-Serial : goal.returns-in-Serial
unfolding ours
returns-in-Serial c = rw c.in-Serial.is
