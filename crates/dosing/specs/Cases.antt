-- The rules run on numbers: document 01's boundary table for AL1 and cases of each algorithm. Assumes nothing.
use Rattle.std.specs.Prelude.{◌≡◌, refl, Bool, true, false, [], ◌∷◌, ℕ, ℤ, pos, negsuc, ◌-ℤ◌}
use Rattle.laws.specs.Pick.{pick}
use Rattle.settings.specs.declared.Settings.{Settings}
use Rattle.settings.specs.Table.{wc, wf}
use Rattle.settings.specs.Cases.{set_of}
use Rattle.dosing.specs.Rules.{units, gates, shut, to, complete, reached_wf, reached_wc, not_below_zero, near_zero, zeroed, full, coarse_stage, fine_stage, fill_begins, ready_to_fill, fill, hold, settle_ends, discharge_opens, settle, amount_of, discharge, load, calm, dose_coarse, dose_fine, dose_settle, ready_to_dose, waits, ready, step_of}
use Rattle.dosing.specs.Gates.{filling_open, emptying_open}
use Rattle.dosing.specs.declared.Phase.TheVariants.{Ready, Coarse, Fine, Hold, Settle, Discharge, Load, Calm, DoseCoarse, DoseFine, DoseSettle}
use Rattle.dosing.specs.declared.Seen.{Seen}

-- C 1,000, D 500, Pc 100, Pf 20, p9 1, with an algorithm, its M and p11
abbrev box : ℕ → ℕ → ℕ → Settings
box algorithm level p11 =
    record {
      algorithm = algorithm;
      capacity = 1000;
      dose = 500;
      pc = 100;
      pf = 20;
      level = level;
      p7 = 4;
      p8 = 4;
      p9 = 1;
      p11 = p11;
      o = 0;
      in1 = 0;
      in2 = 0;
      in3 = 0;
      address = 1;
      serial = 0;
      point = 0;
      product = 0;
    }

abbrev al0 : Settings
al0 = box 0 50 0

abbrev al1 : Settings
al1 = box 1 50 0

abbrev al2 : Settings
al2 = box 2 800 0

abbrev al3 : Settings
al3 = box 3 800 0

-- the same with o = 1, and with p9 = 2
abbrev both_gates : ℕ → Settings
both_gates algorithm = set_of (algorithm ∷ 1000 ∷ 500 ∷ 100 ∷ 20 ∷ 50 ∷ 4 ∷ 4 ∷ 1 ∷ 0 ∷ 1 ∷ 0 ∷ 0 ∷ 0 ∷ 1 ∷ 0 ∷ 0 ∷ [])

abbrev slow : ℕ → ℕ → Settings
slow algorithm level = set_of (algorithm ∷ 1000 ∷ 500 ∷ 100 ∷ 20 ∷ level ∷ 4 ∷ 4 ∷ 2 ∷ 0 ∷ 0 ∷ 0 ∷ 0 ∷ 0 ∷ 1 ∷ 0 ∷ 0 ∷ [])

-- AL2 with Pc and Pf at D: Wf is 0
abbrev no_fill : Settings
no_fill = set_of (2 ∷ 1000 ∷ 500 ∷ 500 ∷ 500 ∷ 800 ∷ 4 ∷ 4 ∷ 1 ∷ 0 ∷ 0 ∷ 0 ∷ 0 ∷ 0 ∷ 1 ∷ 0 ∷ 0 ∷ [])

-- a tick that sees w on a scale zeroed at 0, by start and stable
abbrev sees : ℤ → Bool → Bool → Seen
sees w start stable = record { f = units w; z = units (pos 0); w = units w; start = start; stable = stable }

-- a tick with start that sees F on a scale zeroed at Z
abbrev sees_from : ℤ → ℤ → Seen
sees_from f z = record { f = units f; z = units z; w = units (f -ℤ z); start = true; stable = false }

-- AL1: at Wf the coarse stage shuts both and enters Settle at once
pub fine-passed : step_of al1 (Coarse (units (pos 0))) (sees (pos 480) true false) ≡ to (Settle (units (pos 0)) 0) shut (sees (pos 480) true false)
unfolding step_of coarse_stage fill full reached_wf wf pick
fine-passed = refl

-- coarse does not open again in the fine stage
pub fine_stays : (step_of al1 (Fine (units (pos 0))) (sees (pos 300) true false)).gates ≡ gates false true false
unfolding step_of fine_stage fill reached_wf wf pick
fine_stays = refl

-- both gates at once: with o = 1 the coarse stage of AL0 and AL1 opens 2 beside 1
pub both-gates :
    ((step_of (both_gates 0) (Coarse (units (pos 0))) (sees (pos 399) true false)).gates ≡ gates true true false)
    × ((step_of (both_gates 1) (Coarse (units (pos 0))) (sees (pos 399) true false)).gates ≡ gates true true false)
    × ((step_of (both_gates 1) (Coarse (units (pos 0))) (sees (pos 400) true false)).gates ≡ gates false true false)
unfolding set_of step_of coarse_stage fill reached_wf reached_wc wc wf pick
both-gates = (refl, refl, refl)

-- AL1, Ready: nothing without start; on start F within M becomes the zero, and F = M does not
pub starts :
    (step_of al1 Ready (sees (pos 49) false true) ≡ to Ready shut (sees (pos 49) false true))
    × ((step_of al1 Ready (sees (pos 49) true true)).z ≡ units (pos 49))
    × ((step_of al1 Ready (sees (pos 49) true true)).phase ≡ Coarse (units (pos 0)))
    × ((step_of al1 Ready (sees (pos 50) true true)).z ≡ units (pos 0))
    × ((step_of al1 Ready (sees (pos 50) true true)).phase ≡ Coarse (units (pos 50)))
    × ((step_of al1 Ready (sees (negsuc 48) true true)).z ≡ units (negsuc 48))
    × ((step_of al1 Ready (sees (negsuc 49) true true)).z ≡ units (pos 0))
unfolding step_of ready ready_to_fill fill_begins zeroed near_zero coarse_stage full reached_wf reached_wc wc wf pick
starts = (refl, refl, refl, refl, refl, refl, refl)

-- the zeroing test is on F, not on w; where it fails w0 = F-Z; AL0 zeroes as AL1 does; a start with w >= Wf enters Settle at once
pub starts-by-F :
    (step_of al1 Ready (sees_from (pos 60) (pos 20)) ≡ to (Coarse (units (pos 40))) (gates true false false) (sees_from (pos 60) (pos 20)))
    × (step_of al1 Ready (sees_from (pos 40) (negsuc 19)) ≡ to (Coarse (units (pos 0))) (gates true false false) (sees_from (pos 40) (pos 40)))
    × ((step_of al0 Ready (sees (pos 49) true true)).z ≡ units (pos 49))
    × (step_of al1 Ready (sees (pos 480) true true) ≡ to (Settle (units (pos 480)) 0) shut (sees (pos 480) true true))
unfolding step_of ready ready_to_fill fill_begins zeroed near_zero coarse_stage full reached_wf reached_wc wc wf pick
starts-by-F = (refl, refl, refl, refl)

-- Settle, p9 = 1: it goes on at tick number 63 and 255, and ends on a stable tick and on number 256
pub settles :
    ((step_of al1 (Settle (units (pos 0)) 62) (sees (pos 490) true false)).phase ≡ Settle (units (pos 0)) 63)
    × ((step_of al1 (Settle (units (pos 0)) 63) (sees (pos 490) true true)).phase ≡ Discharge (units (pos 0)) (units (pos 490)) true)
    × ((step_of al1 (Settle (units (pos 0)) 254) (sees (pos 490) true false)).phase ≡ Settle (units (pos 0)) 255)
    × ((step_of al1 (Settle (units (pos 0)) 255) (sees (pos 490) true false)).phase ≡ Discharge (units (pos 0)) (units (pos 490)) false)
    × ((step_of al1 (Settle (units (pos 0)) 255) (sees (pos 490) true true)).phase ≡ Discharge (units (pos 0)) (units (pos 490)) true)
unfolding step_of settle settle_ends discharge_opens pick
settles = (refl, refl, refl, refl, refl)

-- p9 = 2: Settle and Calm go on at tick number 511 and end on number 512; Calm ends on a stable tick too
pub settles-later :
    ((step_of (slow 1 50) (Settle (units (pos 0)) 510) (sees (pos 490) true false)).phase ≡ Settle (units (pos 0)) 511)
    × ((step_of (slow 1 50) (Settle (units (pos 0)) 511) (sees (pos 490) true false)).phase ≡ Discharge (units (pos 0)) (units (pos 490)) false)
    × ((step_of (slow 2 800) (Calm 510) (sees (pos 800) false false)).phase ≡ Calm 511)
    × ((step_of (slow 2 800) (Calm 511) (sees (pos 800) false false)).phase ≡ Ready)
    × ((step_of al2 (Calm 0) (sees (pos 800) false true)).phase ≡ Ready)
unfolding set_of step_of settle calm settle_ends discharge_opens pick
settles-later = (refl, refl, refl, refl, refl)

-- Discharge: at w = M it goes on; below M the amount is wS-wE if p11 = 0, wS-w0 if 1; below 0 it is 0
pub discharges :
    ((step_of al1 (Discharge (units (pos 7)) (units (pos 490)) true) (sees (pos 50) true false)).phase ≡ Discharge (units (pos 7)) (units (pos 490)) true)
    × (step_of al1 (Discharge (units (pos 7)) (units (pos 490)) true) (sees (pos 49) true false) ≡ complete 441 true (sees (pos 49) true false))
    × (step_of (box 1 50 1) (Discharge (units (pos 7)) (units (pos 490)) false) (sees (pos 49) true false) ≡ complete 483 false (sees (pos 49) true false))
    × (step_of al1 (Discharge (units (pos 7)) (units (negsuc 9)) true) (sees (negsuc 8) true false) ≡ complete 0 true (sees (negsuc 8) true false))
unfolding step_of discharge amount_of not_below_zero pick
discharges = (refl, refl, refl, refl)

-- AL0: start off during Fill is looked at before the weight; with start it holds until start goes off
pub stops :
    (step_of al0 (Coarse (units (pos 0))) (sees (pos 480) false false) ≡ to Ready shut (sees (pos 480) false false))
    × (step_of al0 (Fine (units (pos 0))) (sees (pos 480) false false) ≡ to Ready shut (sees (pos 480) false false))
    × (step_of al0 (Fine (units (pos 0))) (sees (pos 480) true false) ≡ to Hold shut (sees (pos 480) true false))
    × (step_of al0 Hold (sees (pos 480) true false) ≡ to Hold shut (sees (pos 480) true false))
    × (step_of al0 Hold (sees (pos 480) false false) ≡ to Ready shut (sees (pos 480) false false))
unfolding step_of coarse_stage fine_stage fill full hold reached_wf reached_wc wc wf pick
stops = (refl, refl, refl, refl, refl)

-- AL2: w < D loads with or without start, until w >= M, then Calm, then Ready
pub loads :
    (step_of al2 Ready (sees (pos 499) false false) ≡ to Load (gates false false true) (sees (pos 499) false false))
    × (step_of al2 Ready (sees (pos 500) false false) ≡ to Ready shut (sees (pos 500) false false))
    × (step_of al2 Load (sees (pos 799) false false) ≡ to Load (gates false false true) (sees (pos 799) false false))
    × (step_of al2 Load (sees (pos 800) false false) ≡ to (Calm 0) shut (sees (pos 800) false false))
    × (step_of al2 (Calm 254) (sees (pos 800) false false) ≡ to (Calm 255) shut (sees (pos 800) false false))
    × (step_of al2 (Calm 255) (sees (pos 800) false false) ≡ to Ready shut (sees (pos 800) false false))
unfolding step_of ready ready_to_dose waits load calm settle_ends pick
loads = (refl, refl, refl, refl, refl, refl)

-- AL2: Dose goes by wH-w; its amount is wH-w, or 0 if below 0
pub doses :
    (step_of al2 Ready (sees (pos 800) true false) ≡ to (DoseCoarse (units (pos 800))) (gates true true false) (sees (pos 800) true false))
    × ((step_of al2 (DoseCoarse (units (pos 800))) (sees (pos 401) true false)).gates ≡ gates true true false)
    × ((step_of al2 (DoseCoarse (units (pos 800))) (sees (pos 400) true false)).gates ≡ gates false true false)
    × ((step_of al2 (DoseFine (units (pos 800))) (sees (pos 321) true false)).gates ≡ gates false true false)
    × (step_of al2 (DoseFine (units (pos 800))) (sees (pos 320) true false) ≡ to (DoseSettle (units (pos 800)) 0) shut (sees (pos 320) true false))
    × (step_of al2 (DoseSettle (units (pos 800)) 0) (sees (pos 310) true true) ≡ complete 490 true (sees (pos 310) true true))
    × (step_of al2 (DoseSettle (units (pos 800)) 255) (sees (pos 810) true false) ≡ complete 0 false (sees (pos 810) true false))
unfolding step_of ready ready_to_dose waits dose_coarse dose_fine dose_settle settle_ends not_below_zero reached_wf reached_wc wc wf pick
doses = (refl, refl, refl, refl, refl, refl, refl)

-- AL2: coarse does not open again in the fine stage; Wf may be reached in the coarse stage; with Wf = 0 Settle begins on the tick of the start
pub doses-on :
    (step_of al2 (DoseFine (units (pos 800))) (sees (pos 500) true false) ≡ to (DoseFine (units (pos 800))) (gates false true false) (sees (pos 500) true false))
    × (step_of al2 (DoseCoarse (units (pos 800))) (sees (pos 320) true false) ≡ to (DoseSettle (units (pos 800)) 0) shut (sees (pos 320) true false))
    × (step_of no_fill Ready (sees (pos 800) true false) ≡ to (DoseSettle (units (pos 800)) 0) shut (sees (pos 800) true false))
unfolding set_of step_of ready ready_to_dose waits dose_coarse dose_fine reached_wf reached_wc wc wf pick
doses-on = (refl, refl, refl)

-- the filling gates are 1 and 2 in AL0 and AL1, and 3 in AL2 and AL3; the emptying gates are the others of 1 to 3, none in AL0
pub gates-by-use :
    (filling_open al0 (gates true false false) ≡ true)
    × (filling_open al1 (gates false true false) ≡ true)
    × (filling_open al1 (gates false false true) ≡ false)
    × (filling_open al2 (gates false false true) ≡ true)
    × (filling_open al3 (gates true true false) ≡ false)
    × (emptying_open al0 (gates true true true) ≡ false)
    × (emptying_open al1 (gates false false true) ≡ true)
    × (emptying_open al1 (gates true true false) ≡ false)
    × (emptying_open al2 (gates true false false) ≡ true)
    × (emptying_open al3 (gates false true false) ≡ true)
    × (emptying_open al3 (gates false false true) ≡ false)
unfolding filling_open emptying_open pick
gates-by-use = (refl, refl, refl, refl, refl, refl, refl, refl, refl, refl, refl)

-- AL3 is AL2, but in Ready nothing happens without start
pub waits-for-start :
    (step_of al3 Ready (sees (pos 100) false false) ≡ to Ready shut (sees (pos 100) false false))
    × (step_of al3 Ready (sees (pos 100) true false) ≡ to Load (gates false false true) (sees (pos 100) true false))
    × ((step_of al3 Ready (sees (pos 500) true false)).phase ≡ DoseCoarse (units (pos 500)))
unfolding step_of ready ready_to_dose waits dose_coarse reached_wf reached_wc wc wf pick
waits-for-start = (refl, refl, refl)
