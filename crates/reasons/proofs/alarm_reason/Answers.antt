use Rattle.laws.specs.Pick.{pick}
use Rattle.reasons.specs.Reasons.{fault_or, alarm_cause}
use Rattle.reasons.proofs.alarm_reason.Goals as goal

pub returns-in-Some : goal.returns-in-Some
unfolding alarm_cause fault_or
returns-in-Some c = rw c.in-Some.is c.fault_reason.ensures

pub returns-then-alarm : goal.returns-then-alarm
unfolding alarm_cause fault_or pick
returns-then-alarm c = rw (c.in_default.is, c.if-alarm.true)

pub returns-else-alarm : goal.returns-else-alarm
unfolding alarm_cause fault_or pick
returns-else-alarm c = rw (c.in_default.is, c.if-alarm.false)
