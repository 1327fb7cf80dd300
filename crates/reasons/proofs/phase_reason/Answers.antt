use mathlib.Core.Path.{◌∙◌}
use Rattle.settings.specs.Table.{wc, wf}
use Rattle.reasons.specs.Reasons.{settling_or, lead_or, name_of, phase_cause}
use Rattle.reasons.proofs.phase_reason.Goals as goal

pub minus-requires : goal.minus-requires
minus-requires c = rw c.in-DoseFine.is at c.requires

pub minus-requires-in-DoseSettle : goal.minus-requires-in-DoseSettle
minus-requires-in-DoseSettle c = rw c.in-DoseSettle.is at c.requires

pub returns-in-Ready : goal.returns-in-Ready
unfolding phase_cause settling_or lead_or name_of wc wf
returns-in-Ready c = rw c.in-Ready.is

pub returns-in-Coarse : goal.returns-in-Coarse
unfolding phase_cause settling_or lead_or name_of wc wf
returns-in-Coarse c = rw c.in-Coarse.is

pub returns-in-Fine : goal.returns-in-Fine
unfolding phase_cause settling_or lead_or name_of wc wf
returns-in-Fine c = c.at_wc.ensures ∙ rw (c.saturating_sub-wc.ensures, c.in-Fine.is)

pub returns-in-Hold : goal.returns-in-Hold
unfolding phase_cause settling_or lead_or name_of wc wf
returns-in-Hold c = c.at_wf.ensures ∙ rw (c.saturating_sub-wf.ensures, c.in-Hold.is)

pub returns-in-Settle : goal.returns-in-Settle
unfolding phase_cause settling_or lead_or name_of wc wf
returns-in-Settle c = c.in_settle.ensures ∙ rw (c.saturating_sub-wf.ensures, c.in-Settle.is)

pub returns-in-Discharge : goal.returns-in-Discharge
unfolding phase_cause settling_or lead_or name_of wc wf
returns-in-Discharge c = rw c.in-Discharge.is

pub returns-in-Load : goal.returns-in-Load
unfolding phase_cause settling_or lead_or name_of wc wf
returns-in-Load c = rw c.in-Load.is

pub returns-in-Calm : goal.returns-in-Calm
unfolding phase_cause settling_or lead_or name_of wc wf
returns-in-Calm c = rw c.in-Calm.is

pub returns-in-DoseCoarse : goal.returns-in-DoseCoarse
unfolding phase_cause settling_or lead_or name_of wc wf
returns-in-DoseCoarse c = rw c.in-DoseCoarse.is

pub returns-in-DoseFine : goal.returns-in-DoseFine
unfolding phase_cause settling_or lead_or name_of wc wf
returns-in-DoseFine c =
    c.at_wc-in-DoseFine.ensures ∙ rw (c.minus.ensures, c.saturating_sub-wc.ensures, c.in-DoseFine.is)

pub returns-in-DoseSettle : goal.returns-in-DoseSettle
unfolding phase_cause settling_or lead_or name_of wc wf
returns-in-DoseSettle c =
    c.at_wf-in-DoseSettle.ensures ∙ rw (c.minus-in-DoseSettle.ensures, c.saturating_sub-wf.ensures, c.in-DoseSettle.is)
