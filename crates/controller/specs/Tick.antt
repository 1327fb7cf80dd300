-- One tick (document 01, "One tick"), step by step. Assumes nothing.
use Rattle.std.specs.Prelude.{Bool, true, false, List, [], ◌∷◌, ℕ, ltb, ℤ, ◌-ℤ◌, get_or, Option, Some, None}
use Rattle.laws.specs.Pick.{pick}
use Rattle.paper.specs.Answer.{Answer, done, refused, fault}
use Rattle.paper.specs.Numbers.{R1, F14, F21}
use Rattle.window.specs.Window.{samples_of, push_of}
use Rattle.dosing.specs.Rules.{units, shut, step_of}
use Rattle.dosing.specs.declared.Phase.TheVariants.{Ready}
use Rattle.dosing.specs.declared.Seen.{Seen}
use Rattle.dosing.specs.declared.Moved.{Moved}
use Rattle.channels.specs.Channels.{outputs_of, start_of, runs_after, watch_of}
use Rattle.counters.specs.declared.Record.{Record}
use Rattle.counters.specs.Counters.{counters_after, records_of}
use Rattle.scale.specs.Scale.{outside, filtered, filter_of, none, calm_by_mean, stable_of, calm_by_gates, over_capacity}
use Rattle.stepping.specs.Stepping.{unstarted_of}
use Rattle.controller.specs.State.{with_window, with_z, with_f, with_s, with_runs, with_phase, with_gates, with_alarm, with_inputs, with_condition, with_counters, with_unstarted}
use Rattle.controller.specs.declared.Controller.{Controller}
use Rattle.controller.specs.declared.Fault.{Fault}
use Rattle.controller.specs.declared.Fault.TheVariants as F

-- ---- what a call makes of a controller: the next one, and its answer

pub record Result (X : Type 0) : Type 0 where
  pub next : Controller
  pub answer : Answer X

-- nothing changes
abbrev pub still : {X : Type 0} → Controller → Answer X → Result X
still c a = record { next = c; answer = a }

-- The tick answers the outputs, with the dose record if one completed
pub record Told : Type 0 where
  pub outputs : ℕ
  pub doses : List Record

-- ---- faults

-- the fault: F14 naming its channel, F21
unfoldable pub says_fault : {X : Type 0} → Fault → Answer X
says_fault (F.F14 channel) = fault F14 (channel ∷ [])
says_fault F.F21 = fault F21 []

-- A fault ends the tick, closes outputs 1 to 3, turns output 4 on, abandons the cycle without counting it, and lasts until restart
unfoldable pub faulted : Fault → Controller → Result Told
faulted why c =
    record { next = with_condition (Some why) (with_alarm true (with_gates shut (with_phase Ready c))); answer = says_fault why }

-- ---- step 8

-- Output 4 is on exactly if w > C+9 (w after any zeroing). If an output 1 to 3 changed, S becomes 0
unfoldable pub step8 : Controller → Moved → Result Told
step8 c m =
    let four = over_capacity c.set (c.f.v -ℤ m.z.v) in
    let after = counters_after c.counters m.dose in
    record {
      next = with_counters after (with_alarm four (with_s (calm_by_gates c.gates m.gates c.s) (with_gates m.gates (with_z m.z (with_phase m.phase c)))));
      answer = done (record { outputs = outputs_of m.gates four; doses = records_of c.set.product after m.dose });
    }

-- ---- step 7: the phase rule

-- w = F-Z
unfoldable pub w_of : Controller → ℤ
w_of c = c.f.v -ℤ c.z.v

unfoldable pub seen_of : Controller → Bool → Seen
seen_of c start = record { f = c.f; z = c.z; w = units (w_of c); start = start; stable = stable_of c.set c.s }

unfoldable pub step7 : Controller → Bool → Result Told
step7 c start =
    let m = step_of c.set c.phase (seen_of c start) in
    step8 (with_unstarted (unstarted_of c.phase start m.phase) c) m

-- ---- step 6: the channels

-- A run of 64 is fault F14, naming the lowest channel that reached it: by what the watch on the runs says
unfoldable pub mismatched : Answer (Unit {0}) → Controller → Result Told → Result Told
mismatched (done u) c next = next
mismatched (refused n vs) c next = next
mismatched (fault n vs) c next = faulted (F.F14 (get_or vs 0 0)) c

-- from step 6 on, with start and S
unfoldable pub steps6to8 : Controller → Bool → ℕ → Result Told
steps6to8 c start s =
    let moved = with_runs (runs_after c.set c.gates c.inputs c.runs) (with_s s c) in
    mismatched (watch_of moved.runs) moved (step7 moved start)

-- ---- steps 4 and 5: the filter and the calm run

-- The sample is kept. F is the mean of the last n samples (of those held, if fewer)
unfoldable pub steps4and5 : Controller → ℤ → Result Told
steps4and5 c x =
    let held = push_of c.window x in
    let f = filtered held (filter_of c.set c.gates) in
    steps6to8 (with_f (units f) (with_window held c)) (start_of c.set c.link c.inputs) (calm_by_mean (none (samples_of c.window)) f c.f.v c.s)

-- ---- steps 1 to 3

-- The inputs are kept for C4, and nothing of the tick before but what the rules name. Sample outside: fault F21, the sample is not kept
unfoldable pub step3 : Controller → ℤ → ℕ → Result Told
step3 c x inputs = let kept = with_unstarted false (with_inputs inputs c) in pick (outside x) (faulted F.F21 kept) (steps4and5 kept x)

-- In a fault: the same fault again; nothing changes
unfoldable pub step2 : Option Fault → Controller → ℤ → ℕ → Result Told
step2 None c x inputs = step3 c x inputs
step2 (Some why) c x inputs = still c (says_fault why)

-- Inputs above 15: R1
unfoldable pub tick_of : Controller → ℤ → ℕ → Result Told
tick_of c x inputs = pick (ltb 15 inputs) (still c (refused R1 [])) (step2 c.condition c x inputs)
