-- Steps 4 and 5 and steps 7 and 8 of a tick (document 01, "One tick"), by their parts. Assumes nothing.
use Rattle.std.specs.Prelude.{Bool, true, false, not, ◌&&◌, List, ℕ, ℤ, ◌-ℤ◌}
use Rattle.settings.specs.declared.Settings.{Settings}
use Rattle.dosing.specs.Rules.{units, step_of}
use Rattle.dosing.specs.declared.Units.{Units}
use Rattle.dosing.specs.declared.Gates.{Gates}
use Rattle.dosing.specs.declared.Phase.{Phase}
use Rattle.dosing.specs.declared.Phase.TheVariants.{Ready, Coarse, Fine, Hold, Settle, Discharge, Load, Calm, DoseCoarse, DoseFine, DoseSettle}
use Rattle.dosing.specs.declared.Moved.{Moved}
use Rattle.channels.specs.Channels.{outputs_of}
use Rattle.counters.specs.Counters.{counters_after}
use Rattle.counters.specs.declared.Counters.{Counters}
use Rattle.scale.specs.Scale.{filtered_lent, filter_of, calm_by_mean, calm_by_gates, over_capacity, seen_by}
use Rattle.stepping.specs.declared.Sampled.{Sampled}
use Rattle.stepping.specs.declared.Stepped.{Stepped}

-- ---- steps 4 and 5

-- F, and S by the F before
unfoldable pub sampled_by : Bool → ℤ → ℤ → ℕ → Sampled
sampled_by first mean previous s = record { f = units mean; s = calm_by_mean first mean previous s }

-- F is the mean of the last n samples of those lent; n is p7 if output 1 was open before the tick, else p8
unfoldable pub sample_of : Settings → Gates → Bool → List ℤ → ℕ → Units → ℕ → Sampled
sample_of set gates first samples held f s = sampled_by first (filtered_lent samples held (filter_of set gates)) f.v s

-- ---- step 7

unfoldable pub at_ready : Phase → Bool
at_ready Ready = true
at_ready (Coarse w0) = false
at_ready (Fine w0) = false
at_ready Hold = false
at_ready (Settle w0 n) = false
at_ready (Discharge w0 w_s settled) = false
at_ready Load = false
at_ready (Calm n) = false
at_ready (DoseCoarse w_h) = false
at_ready (DoseFine w_h) = false
at_ready (DoseSettle w_h n) = false

-- the tick began and ended in Ready with start off (document 02, W6)
unfoldable pub unstarted_of : Phase → Bool → Phase → Bool
unstarted_of began start ended = at_ready began && not start && at_ready ended

-- ---- step 8

-- Output 4 is on exactly if w > C+9 (w after any zeroing). If an output 1 to 3 changed, S becomes 0
unfoldable pub stepped_by : Settings → Units → ℕ → Gates → Counters → Bool → Moved → Stepped
stepped_by set f s gates n unstarted m =
    let four = over_capacity set (f.v -ℤ m.z.v) in
    record {
      phase = m.phase;
      z = m.z;
      s = calm_by_gates gates m.gates s;
      gates = m.gates;
      alarm = four;
      outputs = outputs_of m.gates four;
      dose = m.dose;
      counters = counters_after n m.dose;
      unstarted = unstarted;
    }

-- the phase rule, and step 8
unfoldable pub stepped_of : Settings → Phase → Units → Units → ℕ → Gates → Counters → Bool → Stepped
stepped_of set began f z s gates n start =
    let m = step_of set began (seen_by set f z s start) in
    stepped_by set f s gates n (unstarted_of began start m.phase) m
