-- Ticks and restarts on numbers. Assumes nothing.
use Rattle.std.specs.Prelude.{◌≡◌, refl, true, false, List, [], ◌∷◌, ◌++◌, ℕ, ℤ, pos, replicate}
use Rattle.std.proofs.Math.Bool.{xor}
use Rattle.laws.specs.Pick.{pick}
use Rattle.paper.specs.Answer.{Answer, done, refused, fault, on_done}
use Rattle.paper.specs.Numbers.{R1, R2, R15, F14, F21}
use Rattle.settings.specs.Table.{first_bad, first_from, table, in_range, least_level, most_level, default_set, wc, wf}
use Rattle.settings.specs.declared.Settings.{Settings}
use Rattle.settings.specs.Cases.{set_of}
use Rattle.window.specs.Mean.{mean_of, averaged_of, left_of, without, alike, largest, smallest, greater, lesser, plain_of, round_away, half_up, sum_of}
use Rattle.window.specs.Window.{samples_of, push_of, empty_window}
use Rattle.dosing.specs.Rules.{step_of, ready, ready_to_fill, ready_to_dose, waits, zeroed, near_zero, fill_begins, coarse_stage, fine_stage, fill, full, hold, settle, settle_ends, discharge_opens, discharge, amount_of, load, calm, dose_coarse, dose_fine, dose_settle, reached_wf, reached_wc, not_below_zero, units}
use Rattle.channels.specs.Channels.{input, worth, outputs_of, start_of, expected, run_after, runs_after, watch_of}
use Rattle.counters.specs.Counters.{counted_of, counters_after, record_of, records_of}
use Rattle.scale.specs.Scale.{outside, filtered, filter_of, equal_z, none, calm_by_mean, stable_of, changed, calm_by_gates, over_capacity}
use Rattle.stepping.specs.Stepping.{at_ready, unstarted_of}
use Rattle.controller.specs.State.{restarted, fresh_of, with_s, with_link}
use Rattle.controller.specs.Tick.{Told, tick_of, step2, step3, steps4and5, steps6to8, mismatched, step7, step8, seen_of, w_of, faulted, says_fault}
use Rattle.controller.specs.Ready.{ready_in, is_ready}
use Rattle.controller.specs.declared.Controller.{Controller}
use Rattle.controller.specs.Restart.{stored_bad, restart_of}

-- the answers of the fresh controller to a series of samples and inputs
unfoldable pub answers : Controller → List (ℤ × ℕ) → List (Answer Told)
answers c [] = []
answers c (t ∷ ts) = let r = tick_of c t.0 t.1 in r.answer ∷ answers r.next ts

-- the last of them
unfoldable pub last_of : Answer Told → List (Answer Told) → Answer Told
last_of a [] = a
last_of a (b ∷ bs) = last_of b bs

-- the controller after them
unfoldable pub ticked : Controller → List (ℤ × ℕ) → Controller
ticked c [] = c
ticked c (t ∷ ts) = ticked (tick_of c t.0 t.1).next ts

-- to unfold this is to unfold every rule of a restart and a tick
unfoldable pub rules : Unit {0}
unfolding last_of ticked set_of restart_of stored_bad on_done first_bad first_from table in_range least_level most_level is_ready ready_in at_ready xor answers fresh_of restarted default_set tick_of step2 step3 steps4and5 steps6to8 mismatched watch_of runs_after run_after expected step7 unstarted_of step8 seen_of w_of stable_of filtered filter_of equal_z none calm_by_mean start_of outside faulted says_fault outputs_of worth input over_capacity changed calm_by_gates counters_after counted_of record_of records_of step_of ready ready_to_fill ready_to_dose waits zeroed near_zero fill_begins coarse_stage fine_stage fill full hold settle settle_ends discharge_opens discharge amount_of load calm dose_coarse dose_fine dose_settle reached_wf reached_wc not_below_zero wc wf samples_of push_of empty_window mean_of averaged_of left_of without alike largest smallest greater lesser plain_of round_away half_up sum_of pick
rules = tt

abbrev outputs : ℕ → Answer Told
outputs n = done (record { outputs = n; doses = [] })

abbrev last : Controller → List (ℤ × ℕ) → Answer Told
last c ts = last_of (refused 0 []) (answers c ts)

-- an algorithm with its M and levels: C 1,000, D 500, Pc 100, Pf 20, p7 4, p8 8, p9 1
abbrev set : ℕ → ℕ → ℕ → Settings
set algorithm m level = set_of (algorithm ∷ 1000 ∷ 500 ∷ 100 ∷ 20 ∷ m ∷ 4 ∷ 8 ∷ 1 ∷ 0 ∷ 0 ∷ level ∷ level ∷ level ∷ 1 ∷ 0 ∷ 0 ∷ [])

abbrev box : ℕ → ℕ → ℕ → Controller
box algorithm m level = restarted (set algorithm m level) 0 0

-- the default set in AL0: start opens gate 1, at 100 it holds, start off is Ready; inputs above 15; a sample outside is F21 for good
pub fresh-ticks :
    answers fresh_of ((pos 0, 0) ∷ (pos 0, 8) ∷ (pos 200, 8) ∷ (pos 400, 8) ∷ (pos 40000, 8) ∷ (pos 0, 16) ∷ (pos 40000, 0) ∷ (pos 900001, 3) ∷ (pos 0, 0) ∷ [])
    ≡ outputs 0 ∷ outputs 1 ∷ outputs 1 ∷ outputs 0 ∷ outputs 0 ∷ refused R1 [] ∷ outputs 8 ∷ fault F21 [] ∷ fault F21 [] ∷ []
unfolding rules
fresh-ticks = refl

-- inputs of 15 and a sample of 900,000 are taken; R1 stands before a fault
pub edges :
    (answers fresh_of ((pos 900000, 15) ∷ []) ≡ outputs 8 ∷ [])
    × (answers fresh_of ((pos 900001, 3) ∷ (pos 0, 16) ∷ (pos 0, 3) ∷ []) ≡ fault F21 [] ∷ refused R1 [] ∷ fault F21 [] ∷ [])
unfolding rules
edges = (refl, refl)

-- the inputs of the tick that ends in F21 are kept, its sample is not; later ones in the fault are not
pub kept-in-F21 : ((ticked fresh_of ((pos 5, 1) ∷ (pos 900001, 3) ∷ (pos 7, 2) ∷ [])).inputs ≡ 3) × (samples_of (ticked fresh_of ((pos 5, 1) ∷ (pos 900001, 3) ∷ (pos 7, 2) ∷ [])).window ≡ pos 5 ∷ [])
unfolding rules
kept-in-F21 = (refl, refl)

-- n is p8 while output 1 is shut, in the fine stage too: 480 after four 0 is 240; two of 560 in the fine stage are no 480
pub filter-by-p8 :
    (last (box 1 50 1) (replicate 4 (pos 0, 0) ++ replicate 3 (pos 480, 0) ++ (pos 480, 8) ∷ []) ≡ outputs 1)
    × (last (box 1 50 1) ((pos 0, 8) ∷ replicate 4 (pos 400, 8)) ≡ outputs 2)
    × (last (box 1 50 1) ((pos 0, 8) ∷ replicate 4 (pos 400, 8) ++ replicate 2 (pos 560, 8)) ≡ outputs 2)
unfolding rules
filter-by-p8 = (refl, refl, refl)

-- S: 0 on the first tick, one more on each tick of the same F, 0 on another F and where output 1, 2 or 3 moves; it stops at 4,032
pub calm-runs :
    ((ticked (box 1 50 1) ((pos 0, 0) ∷ [])).s ≡ 0)
    × ((ticked (box 1 50 1) (replicate 65 (pos 300, 0))).s ≡ 64)
    × ((ticked (box 1 50 1) (replicate 65 (pos 300, 0) ++ replicate 2 (pos 308, 0))).s ≡ 0)
    × ((ticked (box 1 50 1) (replicate 65 (pos 300, 0) ++ (pos 300, 8) ∷ [])).s ≡ 0)
    × ((ticked (box 0 50 1) ((pos 0, 8) ∷ replicate 9 (pos 400, 8))).s ≡ 6)
    × ((ticked (box 0 50 1) ((pos 0, 8) ∷ replicate 9 (pos 400, 8) ++ (pos 400, 0) ∷ [])).s ≡ 0)
    × ((ticked (with_link true (ticked (box 3 800 1) (replicate 65 (pos 300, 0)))) ((pos 300, 0) ∷ [])).s ≡ 0)
    × ((ticked (with_s 4031 (ticked (box 1 50 1) ((pos 300, 0) ∷ []))) ((pos 300, 0) ∷ [])).s ≡ 4032)
    × ((ticked (with_s 4032 (ticked (box 1 50 1) ((pos 300, 0) ∷ []))) ((pos 300, 0) ∷ [])).s ≡ 4032)
unfolding rules
calm-runs = (refl, refl, refl, refl, refl, refl, refl, refl, refl)

-- a single wild sample moves neither F nor S, and no gate; it stays held, so that a second one does
pub wild-sample :
    ((ticked (box 1 50 1) (replicate 65 (pos 300, 0) ++ (pos 900000, 0) ∷ [])).s ≡ 65)
    × ((ticked (box 1 50 1) (replicate 65 (pos 300, 0) ++ (pos 900000, 0) ∷ [])).f ≡ units (pos 300))
    × (last (box 1 50 1) ((pos 0, 8) ∷ replicate 3 (pos 100, 9) ++ (pos 900000, 9) ∷ []) ≡ outputs 1)
    × (last (box 1 50 1) ((pos 0, 8) ∷ replicate 3 (pos 100, 9) ++ (pos 900000, 9) ∷ (pos 100, 9) ∷ (pos 900000, 9) ∷ []) ≡ outputs 8)
unfolding rules
wild-sample = (refl, refl, refl, refl)

-- start is input 4 or the link start; in AL3 the link start alone
pub starts :
    (last (box 0 50 1) ((pos 0, 8) ∷ []) ≡ outputs 1)
    × (last (with_link true (box 0 50 1)) ((pos 0, 0) ∷ []) ≡ outputs 1)
    × (last (with_link true (box 1 50 1)) ((pos 0, 0) ∷ []) ≡ outputs 1)
    × (last (with_link false (with_link true (box 1 50 1))) ((pos 0, 7) ∷ []) ≡ outputs 0)
    × (last (box 2 800 1) ((pos 500, 8) ∷ []) ≡ outputs 3)
    × (last (with_link true (box 2 800 1)) ((pos 500, 0) ∷ []) ≡ outputs 3)
    × (last (box 3 800 1) ((pos 500, 8) ∷ []) ≡ outputs 0)
    × (last (with_link true (box 3 800 1)) ((pos 500, 0) ∷ []) ≡ outputs 3)
unfolding rules
starts = (refl, refl, refl, refl, refl, refl, refl, refl)

-- a match puts a run to 0; the lowest of the channels at 64 is named; the outputs are those before the tick; each channel has its level; AL0 does not look; F21 stands before F14; the tick of F14 keeps its sample and moves S
pub runs :
    (last (box 1 50 0) (replicate 63 (pos 0, 5) ++ (pos 0, 7) ∷ replicate 63 (pos 0, 5)) ≡ outputs 0)
    × (last (box 1 50 0) (replicate 64 (pos 0, 0)) ≡ fault F14 (1 ∷ []))
    × (last (box 1 50 0) (replicate 64 (pos 0, 1)) ≡ fault F14 (2 ∷ []))
    × (last (box 1 50 0) (replicate 64 (pos 0, 3)) ≡ fault F14 (3 ∷ []))
    × (last (box 1 50 1) (replicate 63 (pos 0, 1) ++ (pos 0, 9) ∷ []) ≡ fault F14 (1 ∷ []))
    × (last (restarted (set_of (1 ∷ 1000 ∷ 500 ∷ 100 ∷ 20 ∷ 50 ∷ 4 ∷ 8 ∷ 1 ∷ 0 ∷ 0 ∷ 1 ∷ 0 ∷ 1 ∷ 1 ∷ [])) 0 0) (replicate 64 (pos 0, 2)) ≡ outputs 0)
    × (last (restarted (set_of (1 ∷ 1000 ∷ 500 ∷ 100 ∷ 20 ∷ 50 ∷ 4 ∷ 8 ∷ 1 ∷ 0 ∷ 0 ∷ 0 ∷ 1 ∷ 1 ∷ 1 ∷ [])) 0 0) (replicate 64 (pos 0, 1)) ≡ outputs 0)
    × (last (box 0 50 0) (replicate 64 (pos 0, 0)) ≡ outputs 0)
    × (last (box 1 50 0) (replicate 63 (pos 0, 5) ++ (pos 900001, 5) ∷ []) ≡ fault F21 [])
    × ((ticked (box 1 50 0) (replicate 64 (pos 0, 5))).s ≡ 63)
    × (samples_of (ticked (box 1 50 0) (replicate 63 (pos 0, 5) ++ (pos 7, 5) ∷ [])).window ≡ pos 7 ∷ replicate 63 (pos 0))
unfolding rules
runs = (refl, refl, refl, refl, refl, refl, refl, refl, refl, refl, refl)

-- output 4: w = C+9 is no alarm, C+10 is
pub told_at : (last (box 1 50 1) ((pos 1009, 0) ∷ []) ≡ outputs 0) × (last (box 1 50 1) ((pos 1010, 0) ∷ []) ≡ outputs 8)
unfolding rules
told_at = (refl, refl)

-- R2 before R15; the greatest stored numbers, and each one above
pub restarts :
    (restart_of (set_of (4 ∷ [])) 1000000 1000000000 ≡ refused R2 (1 ∷ []))
    × (restart_of default_set 999999 999999999 ≡ done (restarted default_set 999999 999999999))
    × (restart_of default_set 1000000 0 ≡ refused R15 [])
    × (restart_of default_set 0 1000000000 ≡ refused R15 [])
unfolding rules
restarts = (refl, refl, refl, refl)
