-- Steps 4, 5, 7 and 8 on numbers. Assumes nothing.
use Rattle.std.specs.Prelude.{◌≡◌, refl, true, false, List, [], ◌∷◌, ◌++◌, ℤ, pos, replicate, None}
use Rattle.std.proofs.Math.Bool.{xor}
use Rattle.laws.specs.Pick.{pick}
use Rattle.settings.specs.declared.Settings.{Settings}
use Rattle.settings.specs.Cases.{set_of}
use Rattle.settings.specs.Table.{wc, wf}
use Rattle.window.specs.Mean.{mean_of, averaged_of, left_of, without, alike, largest, smallest, greater, lesser, plain_of, round_away, half_up, sum_of}
use Rattle.window.specs.Window.{held_of}
use Rattle.dosing.specs.Rules.{units, dosed, gates, shut, step_of, ready, ready_to_fill, ready_to_dose, waits, zeroed, near_zero, fill_begins, coarse_stage, fine_stage, fill, full, hold, settle, settle_ends, discharge_opens, discharge, amount_of, load, calm, dose_coarse, dose_fine, dose_settle, reached_wf, reached_wc, not_below_zero}
use Rattle.dosing.specs.declared.Phase.TheVariants.{Ready, Coarse, Discharge}
use Rattle.channels.specs.Channels.{worth, outputs_of}
use Rattle.counters.specs.Counters.{counters, counted_of, counters_after}
use Rattle.scale.specs.Scale.{filtered_lent, filter_of, equal_z, calm_by_mean, stable_of, changed, calm_by_gates, over_capacity, net_of, seen_by}
use Rattle.stepping.specs.Stepping.{sampled_by, sample_of, at_ready, unstarted_of, stepped_by, stepped_of}

-- AL1, C 1,000, D 500, Pc 100, Pf 20, M 50, p7 4, p8 8, p9 1
abbrev set : Settings
set = set_of (1 ∷ 1000 ∷ 500 ∷ 100 ∷ 20 ∷ 50 ∷ 4 ∷ 8 ∷ 1 ∷ 0 ∷ 0 ∷ 1 ∷ 1 ∷ 1 ∷ 1 ∷ [])

-- thirteen samples held: five of 100 after eight of 0
abbrev thirteen : List ℤ
thirteen = replicate 5 (pos 100) ++ replicate 123 (pos 0)

-- F is 100 by p7 while output 1 is open, 67 by p8 else; S counts the same F; on the first sample it is 0
pub sampled :
    (sample_of set (gates true false false) false thirteen 13 (units (pos 100)) 7 ≡ record { f = units (pos 100); s = 8 })
    × (sample_of set shut false thirteen 13 (units (pos 100)) 7 ≡ record { f = units (pos 67); s = 0 })
    × (sample_of set shut true (replicate 128 (pos 5)) 1 (units (pos 5)) 7 ≡ record { f = units (pos 5); s = 0 })
unfolding sample_of sampled_by filtered_lent held_of filter_of calm_by_mean equal_z mean_of averaged_of left_of without alike largest smallest greater lesser plain_of round_away half_up sum_of set_of pick
sampled = (refl, refl, refl)

-- to unfold this is to unfold the phase rule and step 8
unfoldable rules : Unit {0}
unfolding stepped_of stepped_by seen_by net_of stable_of unstarted_of at_ready over_capacity changed calm_by_gates xor outputs_of worth counters_after counted_of step_of ready ready_to_fill ready_to_dose waits zeroed near_zero fill_begins coarse_stage fine_stage fill full hold settle settle_ends discharge_opens discharge amount_of load calm dose_coarse dose_fine dose_settle reached_wf reached_wc not_below_zero wc wf set_of pick
rules = tt

-- start at F 30 zeroes, opens output 1 and begins S anew; at rest with start off it waited; w = 49 closes output 3 and counts 450; over C+9 output 4 is on
pub stepped :
    (stepped_of set Ready (units (pos 30)) (units (pos 0)) 7 shut (counters 3 9) true
    ≡ record { phase = Coarse (units (pos 0)); z = units (pos 30); s = 0; gates = gates true false false; alarm = false; outputs = 1; dose = None; counters = counters 3 9; unstarted = false })
    × (stepped_of set Ready (units (pos 30)) (units (pos 0)) 7 shut (counters 3 9) false
    ≡ record { phase = Ready; z = units (pos 0); s = 7; gates = shut; alarm = false; outputs = 0; dose = None; counters = counters 3 9; unstarted = true })
    × (stepped_of set (Discharge (units (pos 0)) (units (pos 499)) true) (units (pos 54)) (units (pos 5)) 7 (gates false false true) (counters 3 9) false
    ≡ record { phase = Ready; z = units (pos 5); s = 0; gates = shut; alarm = false; outputs = 0; dose = dosed 450 true; counters = counters 4 459; unstarted = false })
    × ((stepped_of set Ready (units (pos 1015)) (units (pos 5)) 7 shut (counters 3 9) false).outputs ≡ 8)
    × ((stepped_of set Ready (units (pos 1014)) (units (pos 5)) 7 shut (counters 3 9) false).outputs ≡ 0)
unfolding rules
stepped = (refl, refl, refl, refl, refl)
