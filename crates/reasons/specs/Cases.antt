-- Each reason after some series of calls, on numbers. Assumes nothing.
use Rattle.std.specs.Prelude.{◌≡◌, refl, true, List, [], ◌∷◌, map, ℕ, pos, negsuc, replicate}
use Rattle.paper.specs.Answer.{Answer, done, refused}
use Rattle.paper.specs.Numbers.{R19, F14, F21}
use Rattle.settings.specs.declared.Settings.{Settings}
use Rattle.settings.specs.Cases.{set_of}
use Rattle.controller.specs.Restart.{restart_of, controller_in}
use Rattle.setup.specs.Setup.{settings_of, reset_of, link_of}
use Rattle.controller.specs.Cases.{ticked}
use Rattle.setup.specs.Cases.{orders}
use Rattle.controller.specs.declared.Controller.{Controller}
use Rattle.reasons.specs.Reasons.{ready, fill, settle, discharge, load, calm, dose, Cause, is_open, in_fault, unused, no_start, settling, lead_reached, in_phase, overload, no_alarm, open_at, fault_cause, fault_or, unused_at, unstarted_at, settling_or, lead_or, name_of, phase_cause, gate_by, gate_cause, alarm_cause, no_output, why_of}

-- to unfold this is to unfold the reasons and every rule of the box
unfoldable whole : Unit {0}
unfolding orders controller_in open_at fault_cause fault_or unused_at unstarted_at settling_or lead_or name_of phase_cause gate_by gate_cause alarm_cause no_output why_of
whole = tt

-- an algorithm with its M: C 1,000, D 500, Pc 100, Pf 20, p7 and p8 4, p9 1, levels 1
abbrev set : ℕ → ℕ → Settings
set algorithm m = set_of (algorithm ∷ 1000 ∷ 500 ∷ 100 ∷ 20 ∷ m ∷ 4 ∷ 4 ∷ 1 ∷ 0 ∷ 0 ∷ 1 ∷ 1 ∷ 1 ∷ 1 ∷ 0 ∷ 0 ∷ [])

abbrev box : ℕ → ℕ → Controller
box algorithm m = controller_in (restart_of (set algorithm m) 0 0)

-- the reasons of outputs 1 to 4
abbrev whys : Controller → List (Answer Cause)
whys c = map (why_of c) (1 ∷ 2 ∷ 3 ∷ 4 ∷ [])

abbrev says : Cause → Cause → Cause → Cause → List (Answer Cause)
says one two three four = map (λ x. done x) (one ∷ two ∷ three ∷ four ∷ [])

-- AL1 from the restart to Discharge: before any tick; start off; coarse stage; fine stage; Settle at its ticks 0 and 1; w fallen below its limit since; the tick that is stable
pub in-AL1 :
    (whys (box 1 50) ≡ says (in_phase ready) (in_phase ready) (in_phase ready) no_alarm)
    × (whys (ticked (box 1 50) ((pos 0, 0) ∷ [])) ≡ says no_start no_start no_start no_alarm)
    × (whys (ticked (box 1 50) ((pos 0, 8) ∷ [])) ≡ says is_open (in_phase fill) (in_phase fill) no_alarm)
    × (whys (ticked (box 1 50) ((pos 400, 8) ∷ [])) ≡ says (lead_reached (pos 400) 400) is_open (in_phase fill) no_alarm)
    × (whys (ticked (box 1 50) ((pos 480, 8) ∷ [])) ≡ says (lead_reached (pos 480) 480) (lead_reached (pos 480) 480) (settling 0 256) no_alarm)
    × (whys (ticked (box 1 50) ((pos 480, 8) ∷ (pos 480, 0) ∷ [])) ≡ says (lead_reached (pos 480) 480) (lead_reached (pos 480) 480) (settling 1 256) no_alarm)
    × (whys (ticked (box 1 50) ((pos 480, 8) ∷ (pos 470, 0) ∷ [])) ≡ says (lead_reached (pos 475) 480) (lead_reached (pos 475) 480) (settling 1 256) no_alarm)
    × (whys (ticked (box 1 50) ((pos 480, 8) ∷ replicate 64 (pos 480, 0))) ≡ says (in_phase discharge) (in_phase discharge) is_open no_alarm)
unfolding whole
in-AL1 = (refl, refl, refl, refl, refl, refl, refl, refl)

-- p9 3, a start at 10: what is compared is w and not F, and 768 ticks are allowed
pub from-ten :
    whys (ticked (controller_in (restart_of (set_of (1 ∷ 1000 ∷ 500 ∷ 100 ∷ 20 ∷ 50 ∷ 4 ∷ 4 ∷ 3 ∷ 0 ∷ 0 ∷ 1 ∷ 1 ∷ 1 ∷ 1 ∷ 0 ∷ 0 ∷ [])) 0 0)) ((pos 10, 8) ∷ (pos 970, 8) ∷ []))
    ≡ says (lead_reached (pos 480) 480) (lead_reached (pos 480) 480) (settling 0 768) no_alarm
unfolding whole
from-ten = refl

-- AL0: output 3 is unused, also before any tick; the stages of Fill; the hold
pub in-AL0 :
    (whys (box 0 50) ≡ says (in_phase ready) (in_phase ready) unused no_alarm)
    × (whys (ticked (box 0 50) ((pos 0, 0) ∷ [])) ≡ says no_start no_start unused no_alarm)
    × (whys (ticked (box 0 50) ((pos 0, 8) ∷ [])) ≡ says is_open (in_phase fill) unused no_alarm)
    × (whys (ticked (box 0 50) ((pos 400, 8) ∷ [])) ≡ says (lead_reached (pos 400) 400) is_open unused no_alarm)
    × (whys (ticked (box 0 50) ((pos 480, 8) ∷ [])) ≡ says (lead_reached (pos 480) 480) (lead_reached (pos 480) 480) unused no_alarm)
unfolding whole
in-AL0 = (refl, refl, refl, refl, refl)

-- AL2: start off with w >= D, where output 3 has no start to wait for; Load; Calm; Dose in its stages, with wH-w; its Settle
pub in-AL2 :
    (whys (ticked (box 2 800) ((pos 900, 0) ∷ [])) ≡ says no_start no_start (in_phase ready) no_alarm)
    × (whys (ticked (box 2 800) ((pos 0, 0) ∷ [])) ≡ says (in_phase load) (in_phase load) is_open no_alarm)
    × (whys (ticked (box 2 800) ((pos 0, 0) ∷ (pos 1600, 0) ∷ [])) ≡ says (in_phase calm) (in_phase calm) (in_phase calm) no_alarm)
    × (whys (ticked (box 2 800) ((pos 900, 8) ∷ [])) ≡ says is_open is_open (in_phase dose) no_alarm)
    × (whys (ticked (box 2 800) ((pos 900, 8) ∷ (pos 100, 8) ∷ [])) ≡ says (lead_reached (pos 400) 400) is_open (in_phase dose) no_alarm)
    × (whys (ticked (box 2 800) ((pos 900, 8) ∷ (negsuc 59, 8) ∷ [])) ≡ says (lead_reached (pos 480) 480) (lead_reached (pos 480) 480) (in_phase settle) no_alarm)
unfolding whole
in-AL2 = (refl, refl, refl, refl, refl, refl)

-- AL3: input 4 is no start, and output 3 waits for start too; with the link start its Dose in the fine stage, with wH-w, and its Settle
pub in-AL3 :
    (whys (ticked (box 3 800) ((pos 0, 8) ∷ [])) ≡ says no_start no_start no_start no_alarm)
    × (whys (ticked (link_of (box 3 800) true) ((pos 900, 0) ∷ (pos 100, 0) ∷ [])) ≡ says (lead_reached (pos 400) 400) is_open (in_phase dose) no_alarm)
    × (whys (ticked (link_of (box 3 800) true) ((pos 900, 0) ∷ (negsuc 59, 0) ∷ [])) ≡ says (lead_reached (pos 480) 480) (lead_reached (pos 480) 480) (in_phase settle) no_alarm)
unfolding whole
in-AL3 = (refl, refl, refl)

-- a fault stands before unused, for all four outputs; F14 with its channel
pub in-faults :
    (whys (ticked (box 0 50) ((pos 900001, 0) ∷ [])) ≡ says (in_fault F21 0) (in_fault F21 0) (in_fault F21 0) (in_fault F21 0))
    × (whys (ticked (box 1 50) (replicate 64 (pos 0, 2))) ≡ says (in_fault F14 2) (in_fault F14 2) (in_fault F14 2) (in_fault F14 2))
unfolding whole
in-faults = (refl, refl)

-- overload while output 4 is on, also after a set that keeps it on; another number is R19
pub at-four :
    (why_of (ticked (box 1 50) ((pos 1010, 0) ∷ [])) 4 ≡ done overload)
    × (why_of (settings_of (ticked (box 1 50) ((pos 1010, 0) ∷ [])) (set 1 50)).next 4 ≡ done overload)
    × (why_of (box 1 50) 0 ≡ refused R19 [])
    × (why_of (box 1 50) 5 ≡ refused R19 [])
unfolding whole
at-four = (refl, refl, refl, refl)

-- a set clears what the last tick told; a tick refused with R1, the link start and a counter reset leave it
pub since-the-tick :
    (why_of (settings_of (ticked (box 1 50) ((pos 0, 0) ∷ [])) (set 1 50)).next 1 ≡ done (in_phase ready))
    × (why_of (ticked (box 1 50) ((pos 0, 0) ∷ (pos 0, 16) ∷ [])) 1 ≡ done no_start)
    × (why_of (link_of (ticked (box 1 50) ((pos 0, 0) ∷ [])) true) 1 ≡ done no_start)
    × (why_of (reset_of (ticked (box 1 50) ((pos 0, 0) ∷ []))).next 1 ≡ done no_start)
unfolding whole
since-the-tick = (refl, refl, refl, refl)
