-- The P cases of document 01's boundary table, proved together: one list, one test computed over it, one law that turns it into the rule for each. The statement stands in proofs/Table. Assumes nothing.
use Rattle.std.specs.Prelude.{◌≡◌, refl, Bool, true, false, not, List, [], ◌∷◌, ℕ, T, eqb, ℤ, pos, negsuc, length}
use Rattle.std.proofs.Math.Bool.{xor}
use Rattle.std.proofs.Common.{eqb→eq}
use Rattle.laws.specs.Pick.{pick}
use Rattle.laws.specs.Tests.{both, each, both_left, both_right}
use Rattle.paper.specs.Answer.{Answer, done, refused, fault, on_done}
use Rattle.settings.specs.declared.Settings.{Settings}
use Rattle.settings.specs.Table.{first_bad, first_from, table, in_range, least_level, most_level, wc, wf}
use Rattle.window.specs.Mean.{mean_of, averaged_of, left_of, without, alike, largest, smallest, greater, lesser, plain_of, round_away, half_up, sum_of}
use Rattle.window.specs.Window.{samples_of, push_of, empty_window}
use Rattle.field.specs.declared.Field.{Field}
use Rattle.field.specs.declared.Weight.{Weight}
use Rattle.field.specs.Field.{read_of, readable, is_bcd, weight_of, signed, has_bit, value_of, four, weight}
use Rattle.frame.specs.Check.{check, enter_all, enter, enter_bits, enter_bit, fell_out}
use Rattle.dosing.specs.Rules.{step_of, ready, ready_to_fill, ready_to_dose, waits, zeroed, near_zero, fill_begins, coarse_stage, fine_stage, fill, full, hold, settle, settle_ends, discharge_opens, discharge, amount_of, load, calm, dose_coarse, dose_fine, dose_settle, reached_wf, reached_wc, not_below_zero}
use Rattle.controller.specs.declared.Controller.{Controller}
use Rattle.counters.specs.Counters.{counters, counters_after, counted_of, record_of, records_of}
use Rattle.controller.specs.State.{restarted}
use Rattle.controller.specs.Restart.{restart_of, controller_in, stored_bad}
use Rattle.channels.specs.Channels.{runs_after, run_after, expected, start_of, outputs_of, worth, input, watch_of}
use Rattle.scale.specs.Scale.{stable_of, filter_of, equal_z, none, calm_by_mean, outside, over_capacity, changed, filtered, calm_by_gates}
use Rattle.controller.specs.Tick.{tick_of, step2, step3, steps4and5, steps6to8, mismatched, step7, step8, seen_of, w_of, faulted, says_fault}

-- what a case asks, with document 01's numerals
pub data Case : Type 0 where
  -- the check byte of a body
  check_byte : List ℕ → ℕ → Case
  -- a weight field and what it stands for
  field : Field → Weight → Case
  -- samples and their mean
  mean : List ℤ → ℤ → Case
  -- AL1: at a weight, the outputs
  fill_at : ℤ → ℕ → Case
  -- a total, an amount, and the total after it
  total_after : ℕ → ℕ → ℕ → Case

-- AL1, C 1,000, D 500, Pc 100, Pf 20, M 50
unfoldable pub al1 : Settings
al1 =
    record {
      algorithm = 1;
      capacity = 1000;
      dose = 500;
      pc = 100;
      pf = 20;
      level = 50;
      p7 = 4;
      p8 = 4;
      p9 = 1;
      p11 = 0;
      o = 0;
      in1 = 1;
      in2 = 1;
      in3 = 1;
      address = 1;
      serial = 0;
      point = 0;
      product = 0;
    }

-- ticks with start on, and the outputs of the last of them
unfoldable pub outputs_after : Controller → List ℤ → ℕ
outputs_after c [] = outputs_of c.gates c.alarm
outputs_after c (x ∷ xs) = outputs_after (tick_of c x 8).next xs

-- a restart, a start at 0, and the weight until the filter holds nothing else
unfoldable pub outputs_at : ℤ → ℕ
outputs_at w = outputs_after (controller_in (restart_of al1 0 0)) (pos 0 ∷ w ∷ w ∷ w ∷ w ∷ [])

unfoldable pub cases : List Case
cases =
    -- check byte of 01 C3 is E3; of 01 C2 is 8A; of 01 C0 is 58; of 01 alone is 69
    check_byte (0x01 ∷ 0xC3 ∷ []) 0xE3
    ∷ check_byte (0x01 ∷ 0xC2 ∷ []) 0x8A
    ∷ check_byte (0x01 ∷ 0xC0 ∷ []) 0x58
    ∷ check_byte (0x01 ∷ []) 0x69
    -- field 05 00 00 91: -5, stable, one place
    ∷ field (four 0x05 0x00 0x00 0x91) (weight (negsuc 4) true false 1)
    -- means: 1,2 gives 2; -1,-2 gives -2; 0,-1 gives -1
    ∷ mean (pos 1 ∷ pos 2 ∷ []) (pos 2)
    ∷ mean (negsuc 0 ∷ negsuc 1 ∷ []) (negsuc 1)
    ∷ mean (pos 0 ∷ negsuc 0 ∷ []) (negsuc 0)
    -- at 399 coarse is open; at 400 shut, fine open; at 479 fine open; at 480 both shut
    ∷ fill_at (pos 399) 1
    ∷ fill_at (pos 400) 2
    ∷ fill_at (pos 479) 2
    ∷ fill_at (pos 480) 0
    -- total 999,999,999 plus 1 is 0
    ∷ total_after 999999999 1 0
    ∷ []

-- what the case says
unfoldable pub Holds : Case → Type 0
Holds (check_byte body c) = check body ≡ c
Holds (field f w) = read_of f ≡ done w
Holds (mean xs m) = mean_of xs ≡ m
Holds (fill_at w outputs) = outputs_at w ≡ outputs
Holds (total_after t amount t') = (counted_of (counters 0 t) amount).total ≡ t'

-- ---- the test, and what it shows

unfoldable pub same_z : ℤ → ℤ → Bool
same_z (pos m) (pos n) = eqb m n
same_z (pos m) (negsuc n) = false
same_z (negsuc m) (pos n) = false
same_z (negsuc m) (negsuc n) = eqb m n

unfoldable pub same_flag : Bool → Bool → Bool
same_flag true b = b
same_flag false b = not b

unfoldable pub same_weight : Weight → Weight → Bool
same_weight v w = both (same_z v.value w.value) (both (same_flag v.stable w.stable) (both (same_flag v.over w.over) (eqb v.point w.point)))

unfoldable pub says : Answer Weight → Weight → Bool
says (done v) w = same_weight v w
says (refused n vs) w = false
says (fault n vs) w = false

unfoldable pub passes : Case → Bool
passes (check_byte body c) = eqb (check body) c
passes (field f w) = says (read_of f) w
passes (mean xs m) = same_z (mean_of xs) m
passes (fill_at w outputs) = eqb (outputs_at w) outputs
passes (total_after t amount t') = eqb (counted_of (counters 0 t) amount).total t'

same-z : (a b : ℤ) → T (same_z a b) → a ≡ b
unfolding same_z
same-z (pos m) (pos n) t = let e : m ≡ n = eqb→eq m n t in cc
same-z (pos m) (negsuc n) t = absurd t
same-z (negsuc m) (pos n) t = absurd t
same-z (negsuc m) (negsuc n) t = let e : m ≡ n = eqb→eq m n t in cc

same_flag_lem : (a b : Bool) → T (same_flag a b) → a ≡ b
unfolding same_flag
same_flag_lem true true t = refl
same_flag_lem true false t = absurd t
same_flag_lem false true t = absurd t
same_flag_lem false false t = refl

same-weight : (v w : Weight) → T (same_weight v w) → v ≡ w
unfolding same_weight
same-weight v w t =
    let flags = both_right (same_z v.value w.value) _ t in
    let rest = both_right (same_flag v.stable w.stable) _ flags in
    let a : v.value ≡ w.value = same-z v.value w.value (both_left (same_z v.value w.value) _ t) in
    let b : v.stable ≡ w.stable = same_flag_lem v.stable w.stable (both_left (same_flag v.stable w.stable) _ flags) in
    let c : v.over ≡ w.over = same_flag_lem v.over w.over (both_left (same_flag v.over w.over) _ rest) in
    let d : v.point ≡ w.point = eqb→eq v.point w.point (both_right (same_flag v.over w.over) _ rest) in
    let e : weight v.value v.stable v.over v.point ≡ weight w.value w.stable w.over w.point = cc in
    e

says-done : (a : Answer Weight) (w : Weight) → T (says a w) → a ≡ done w
unfolding says
says-done (done v) w t = let e : v ≡ w = same-weight v w t in cc
says-done (refused n vs) w t = absurd t
says-done (fault n vs) w t = absurd t

-- a case that passes holds
pub passes-holds : (k : Case) → T (passes k) → Holds k
unfolding passes Holds
passes-holds (check_byte body c) t = eqb→eq (check body) c t
passes-holds (field f w) t = says-done (read_of f) w t
passes-holds (mean xs m) t = same-z (mean_of xs) m t
passes-holds (fill_at w outputs) t = eqb→eq (outputs_at w) outputs t
passes-holds (total_after t amount t') u = eqb→eq (counted_of (counters 0 t) amount).total t' u

-- every case passes: computed over the whole list
pub all_pass : T (each passes cases)
unfolding each both cases passes says same_weight same_flag same_z check enter_all enter enter_bits enter_bit fell_out read_of readable is_bcd weight_of signed has_bit value_of mean_of averaged_of left_of without alike largest smallest greater lesser plain_of round_away half_up sum_of outputs_at outputs_after al1 controller_in restart_of on_done first_bad first_from table in_range least_level most_level stored_bad restarted tick_of step2 step3 steps4and5 steps6to8 mismatched watch_of runs_after run_after expected step7 step8 seen_of w_of stable_of filtered filter_of equal_z none calm_by_mean start_of outside faulted says_fault outputs_of worth input over_capacity changed calm_by_gates counters_after counted_of record_of records_of step_of ready ready_to_fill ready_to_dose waits zeroed near_zero fill_begins coarse_stage fine_stage fill full hold settle settle_ends discharge_opens discharge amount_of load calm dose_coarse dose_fine dose_settle reached_wf reached_wc not_below_zero wc wf samples_of push_of empty_window pick xor
all_pass = tt

-- all thirteen
pub thirteen : length cases ≡ 13
unfolding cases
thirteen = refl
