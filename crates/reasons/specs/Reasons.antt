-- Why an output is as it is (document 02, W6). Assumes nothing.
use Rattle.std.specs.Prelude.{Bool, not, ◌&&◌, ◌||◌, [], ℕ, ◌*◌, leb, ltb, eqb, ℤ, ◌-ℤ◌, Option, Some, None}
use Rattle.laws.specs.Pick.{pick}
use Rattle.paper.specs.Answer.{Answer, done, refused}
use Rattle.paper.specs.Numbers.{R19, F14, F21}
use Rattle.settings.specs.declared.Settings.{Settings}
use Rattle.settings.specs.Table.{wc, wf}
use Rattle.dosing.specs.declared.Gates.{Gates}
use Rattle.dosing.specs.declared.Phase.{Phase}
use Rattle.dosing.specs.declared.Phase.TheVariants.{Ready, Coarse, Fine, Hold, Settle, Discharge, Load, Calm, DoseCoarse, DoseFine, DoseSettle}
use Rattle.controller.specs.Tick.{w_of}
use Rattle.controller.specs.declared.Controller.{Controller}
use Rattle.controller.specs.declared.Fault.{Fault}
use Rattle.controller.specs.declared.Fault.TheVariants as F

-- ---- the reasons

-- the phases as document 01 calls them, without the stage
pub data PhaseName : Type 0 where
  ready : PhaseName
  fill : PhaseName
  settle : PhaseName
  discharge : PhaseName
  load : PhaseName
  calm : PhaseName
  dose : PhaseName

-- open; fault, with number and channel; unused; no start; settling, with ticks gone and allowed; lead reached, with what is compared and its limit; else the phase. Output 4: fault, overload or no alarm
pub data Cause : Type 0 where
  is_open : Cause
  in_fault : ℕ → ℕ → Cause
  unused : Cause
  no_start : Cause
  settling : ℕ → ℕ → Cause
  lead_reached : ℤ → ℕ → Cause
  in_phase : PhaseName → Cause
  overload : Cause
  no_alarm : Cause

-- ---- each reason where it holds, else the next one

unfoldable pub open_at : Gates → ℕ → Bool
open_at g k = pick (eqb k 1) g.one (pick (eqb k 2) g.two g.three)

-- fault, with number and channel (0 for F21)
unfoldable pub fault_cause : Fault → Cause
fault_cause (F.F14 channel) = in_fault F14 channel
fault_cause F.F21 = in_fault F21 0

unfoldable pub fault_or : Option Fault → Cause → Cause
fault_or None next = next
fault_or (Some why) next = fault_cause why

-- unused (3 in AL0)
unfoldable pub unused_at : Settings → ℕ → Bool
unused_at set k = eqb set.algorithm 0 && eqb k 3

-- no start (the last tick, no set or restart since, began and ended in Ready with start off; not for output 3 in AL2)
unfoldable pub unstarted_at : Settings → Bool → ℕ → Bool
unstarted_at set unstarted k = unstarted && not (eqb set.algorithm 2 && eqb k 3)

-- settling, with ticks gone and allowed (3 in AL1's Settle)
unfoldable pub settling_or : Settings → Phase → ℕ → Cause → Cause
settling_or set Ready k next = next
settling_or set (Coarse w0) k next = next
settling_or set (Fine w0) k next = next
settling_or set Hold k next = next
settling_or set (Settle w0 n) k next = pick (eqb k 3) (settling n (256 * set.p9)) next
settling_or set (Discharge w0 w_s settled) k next = next
settling_or set Load k next = next
settling_or set (Calm n) k next = next
settling_or set (DoseCoarse w_h) k next = next
settling_or set (DoseFine w_h) k next = next
settling_or set (DoseSettle w_h n) k next = next

-- lead reached, with w (wH-w in AL2, AL3) and limit (Wc for 1 in the fine stage, Wf for 1 or 2 in Settle or AL0's hold)
unfoldable pub lead_or : Settings → Phase → ℤ → ℕ → Cause → Cause
lead_or set Ready w k next = next
lead_or set (Coarse w0) w k next = next
lead_or set (Fine w0) w k next = pick (eqb k 1) (lead_reached w (wc set)) next
lead_or set Hold w k next = pick (leb k 2) (lead_reached w (wf set)) next
lead_or set (Settle w0 n) w k next = pick (leb k 2) (lead_reached w (wf set)) next
lead_or set (Discharge w0 w_s settled) w k next = next
lead_or set Load w k next = next
lead_or set (Calm n) w k next = next
lead_or set (DoseCoarse w_h) w k next = next
lead_or set (DoseFine w_h) w k next = pick (eqb k 1) (lead_reached (w_h.v -ℤ w) (wc set)) next
lead_or set (DoseSettle w_h n) w k next = pick (leb k 2) (lead_reached (w_h.v -ℤ w) (wf set)) next

-- else the phase: Fill in AL0 and AL1, Dose in AL2 and AL3, each in either stage; AL0's hold is the end of its Fill
unfoldable pub name_of : Phase → PhaseName
name_of Ready = ready
name_of (Coarse w0) = fill
name_of (Fine w0) = fill
name_of Hold = fill
name_of (Settle w0 n) = settle
name_of (Discharge w0 w_s settled) = discharge
name_of Load = load
name_of (Calm n) = calm
name_of (DoseCoarse w_h) = dose
name_of (DoseFine w_h) = dose
name_of (DoseSettle w_h n) = settle

-- ---- the answer

-- from settling on: by the phase and w
unfoldable pub phase_cause : Settings → Phase → ℤ → ℕ → Cause
phase_cause set p w k = settling_or set p k (lead_or set p w k (in_phase (name_of p)))

-- For outputs 1 to 3 after a tick, give the first that holds: open; fault; unused; no start; settling; lead reached; else the phase
unfoldable pub gate_by : Settings → Gates → Option Fault → Bool → Phase → ℤ → ℕ → Cause
gate_by set g k unstarted p w output =
    pick (open_at g output) is_open
    (fault_or k
    (pick (unused_at set output) unused
    (pick (unstarted_at set unstarted output) no_start
    (phase_cause set p w output))))

-- w is that of the last tick
unfoldable pub gate_cause : Controller → ℕ → Cause
gate_cause c k = gate_by c.set c.gates c.condition c.unstarted c.phase (w_of c) k

-- Output 4 is fault, overload or no alarm
unfoldable pub alarm_cause : Option Fault → Bool → Cause
alarm_cause k four = fault_or k (pick four overload no_alarm)

-- an output number outside 1..4
unfoldable pub no_output : ℕ → Bool
no_output k = ltb k 1 || ltb 4 k

unfoldable pub why_of : Controller → ℕ → Answer Cause
why_of c k = pick (no_output k) (refused R19 []) (done (pick (eqb k 4) (alarm_cause c.condition c.alarm) (gate_cause c k)))
