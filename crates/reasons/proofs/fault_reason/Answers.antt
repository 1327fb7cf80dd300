use Rattle.reasons.specs.Reasons.{fault_cause}
use Rattle.reasons.proofs.fault_reason.Goals as goal

pub returns-in-F14 : goal.returns-in-F14
unfolding fault_cause
returns-in-F14 c = rw c.in-F14.is

pub returns-in-F21 : goal.returns-in-F21
unfolding fault_cause
returns-in-F21 c = rw c.in-F21.is
