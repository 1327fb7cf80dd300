use Rattle.recorder.proofs.Listening.{heard-none, heard-dose, heard-fault, heard-r1}
use Rattle.recorder.proofs.heard_tick.Goals as goal

pub returns-in-None : goal.returns-in-None
returns-in-None c = heard-none _ _ c.in-Ok.is c.in-None.is

pub returns-in-Some : goal.returns-in-Some
returns-in-Some c = heard-dose _ _ _ c.in-Ok.is c.in-Some.is

pub returns-in-Fault : goal.returns-in-Fault
returns-in-Fault c = heard-fault _ _ _ c.in-Err.is c.in-Fault.is

pub returns-in-R1 : goal.returns-in-R1
returns-in-R1 c = heard-r1 _ _ c.in-Err.is c.in-R1.is
