-- No phase is out of reach: for each phase of each algorithm and for both faults, some series of calls from the fresh controller reaches it. Assumes nothing.
use Rattle.std.specs.Prelude.{◌≡◌, refl, true, List, [], ◌∷◌, ◌++◌, map, ℕ, Option, Some, None}
use Rattle.settings.specs.Cases.{set_of}
use Rattle.dosing.specs.declared.Phase.{Phase}
use Rattle.dosing.specs.declared.Phase.TheVariants.{Ready, Coarse, Fine, Hold, Settle, Discharge, Load, Calm, DoseCoarse, DoseFine, DoseSettle}
use Rattle.controller.specs.declared.Fault.{Fault}
use Rattle.controller.specs.declared.Fault.TheVariants as F
use Rattle.controller.specs.State.{fresh_of}
use Rattle.controller.specs.Restart.{restarted_from}
use Rattle.setup.specs.Cases.{orders}
use Rattle.series.specs.Events.{Event, link, restart, event_of, run}
use Rattle.series.specs.Examples.{ticks}

-- the phases by name
pub data Name : Type 0 where
  ready' coarse fine hold' settle' discharge' load' calm' dose_coarse' dose_fine' dose_settle' : Name
  f14 : ℕ → Name
  f21 : Name

unfoldable pub phase_name : Phase → Name
phase_name Ready = ready'
phase_name (Coarse w0) = coarse
phase_name (Fine w0) = fine
phase_name Hold = hold'
phase_name (Settle w0 n) = settle'
phase_name (Discharge w0 w_s settled) = discharge'
phase_name Load = load'
phase_name (Calm n) = calm'
phase_name (DoseCoarse w_h) = dose_coarse'
phase_name (DoseFine w_h) = dose_fine'
phase_name (DoseSettle w_h n) = dose_settle'

unfoldable pub name_in : Option Fault → Phase → Name
name_in None p = phase_name p
name_in (Some (F.F14 channel)) p = f14 channel
name_in (Some F.F21) p = f21

-- where a series ends: the algorithm, and the phase or the fault
pub record End : Type 0 where
  pub algorithm : ℕ
  pub name : Name

unfoldable pub end_of : List Event → End
end_of es = let c = run fresh_of es in record { algorithm = c.set.algorithm; name = name_in c.condition c.phase }

abbrev at : ℕ → Name → End
at al n = record { algorithm = al; name = n }

-- an algorithm with its level M; C 1,000, D 100, Pc 50, Pf 20, p7 and p8 4, p9 1; inputs 1 to 3 are 0 while the outputs are shut
abbrev begun : ℕ → ℕ → Event
begun algorithm level = restart (set_of (algorithm ∷ 1000 ∷ 100 ∷ 50 ∷ 20 ∷ level ∷ 4 ∷ 4 ∷ 1 ∷ 0 ∷ 0 ∷ 1 ∷ 1 ∷ 1 ∷ 1 ∷ 0 ∷ 0 ∷ [])) 0 0

-- AL0 and AL1: Ready, the coarse stage, the fine stage at 60, and at 100 the hold or Settle
abbrev fills : ℕ → List (List Event)
fills al =
    (begun al 50 ∷ ticks 1 0 0)
    ∷ (begun al 50 ∷ ticks 1 0 8)
    ∷ (begun al 50 ∷ ticks 1 0 8 ++ ticks 4 60 8)
    ∷ (begun al 50 ∷ ticks 1 0 8 ++ ticks 4 100 8)
    ∷ []

-- AL2 and AL3: Ready after the restart; then with the link start on Load below D, Calm at M, and from 500 the coarse stage, the fine stage at 440 and Settle at 400
abbrev doses : ℕ → List (List Event)
doses al =
    (begun al 200 ∷ [])
    ∷ (begun al 200 ∷ link true ∷ ticks 1 0 0)
    ∷ (begun al 200 ∷ link true ∷ ticks 1 0 0 ++ ticks 4 300 0)
    ∷ (begun al 200 ∷ link true ∷ ticks 1 500 0)
    ∷ (begun al 200 ∷ link true ∷ ticks 4 500 0 ++ ticks 4 440 0)
    ∷ (begun al 200 ∷ link true ∷ ticks 4 500 0 ++ ticks 4 400 0)
    ∷ []

pub every-phase :
    (map end_of (fills 0) ≡ at 0 ready' ∷ at 0 coarse ∷ at 0 fine ∷ at 0 hold' ∷ [])
    × (map end_of (fills 1) ≡ at 1 ready' ∷ at 1 coarse ∷ at 1 fine ∷ at 1 settle' ∷ [])
    × (end_of (begun 1 50 ∷ ticks 1 0 8 ++ ticks 68 150 0) ≡ at 1 discharge')
    × (map end_of (doses 2) ≡ at 2 ready' ∷ at 2 load' ∷ at 2 calm' ∷ at 2 dose_coarse' ∷ at 2 dose_fine' ∷ at 2 dose_settle' ∷ [])
    × (map end_of (doses 3) ≡ at 3 ready' ∷ at 3 load' ∷ at 3 calm' ∷ at 3 dose_coarse' ∷ at 3 dose_fine' ∷ at 3 dose_settle' ∷ [])
unfolding orders restarted_from event_of run end_of name_in phase_name
every-phase = (refl, refl, refl, refl, refl)

-- both faults, in each algorithm that has them
pub every-fault :
    (map end_of ((begun 1 50 ∷ ticks 64 0 1) ∷ (begun 2 200 ∷ ticks 64 500 2) ∷ (begun 3 200 ∷ ticks 64 500 4) ∷ []) ≡ at 1 (f14 1) ∷ at 2 (f14 2) ∷ at 3 (f14 3) ∷ [])
    × (map end_of ((begun 0 50 ∷ ticks 1 900001 0) ∷ (begun 1 50 ∷ ticks 1 900001 0) ∷ (begun 2 200 ∷ ticks 1 900001 0) ∷ (begun 3 200 ∷ ticks 1 900001 0) ∷ []) ≡ at 0 f21 ∷ at 1 f21 ∷ at 2 f21 ∷ at 3 f21 ∷ [])
unfolding orders restarted_from event_of run end_of name_in phase_name
every-fault = (refl, refl)
