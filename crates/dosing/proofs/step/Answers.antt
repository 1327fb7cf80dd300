use Rattle.dosing.specs.Rules.{step_of}
use Rattle.dosing.proofs.step.Goals as goal

pub returns-in-Ready : goal.returns-in-Ready
unfolding step_of
returns-in-Ready c = rw c.in-Ready.is c.ready.ensures

pub returns-in-Coarse : goal.returns-in-Coarse
unfolding step_of
returns-in-Coarse c = rw c.in-Coarse.is c.fill_coarse.ensures

pub returns-in-Fine : goal.returns-in-Fine
unfolding step_of
returns-in-Fine c = rw c.in-Fine.is c.fill_fine.ensures

pub returns-in-Hold : goal.returns-in-Hold
unfolding step_of
returns-in-Hold c = rw c.in-Hold.is c.hold.ensures

pub returns-in-Settle : goal.returns-in-Settle
unfolding step_of
returns-in-Settle c = rw c.in-Settle.is c.settle.ensures

pub returns-in-Discharge : goal.returns-in-Discharge
unfolding step_of
returns-in-Discharge c = rw c.in-Discharge.is c.discharge.ensures

pub returns-in-Load : goal.returns-in-Load
unfolding step_of
returns-in-Load c = rw c.in-Load.is c.load.ensures

pub returns-in-Calm : goal.returns-in-Calm
unfolding step_of
returns-in-Calm c = rw c.in-Calm.is c.calm.ensures

pub returns-in-DoseCoarse : goal.returns-in-DoseCoarse
unfolding step_of
returns-in-DoseCoarse c = rw c.in-DoseCoarse.is c.dose_coarse.ensures

pub returns-in-DoseFine : goal.returns-in-DoseFine
unfolding step_of
returns-in-DoseFine c = rw c.in-DoseFine.is c.dose_fine.ensures

pub returns-in-DoseSettle : goal.returns-in-DoseSettle
unfolding step_of
returns-in-DoseSettle c = rw c.in-DoseSettle.is c.dose_settle.ensures
