-- Laws that the proofs of the code cite. Assumes nothing.
use mathlib.Core.Path.{◌≡◌, refl, ap, ◌∙◌}
use Rattle.std.proofs.Common.{◌≢◌}
use mathlib.Core.Bool.{Bool, false}
use mathlib.Core.List.{List}
use Prim.Native.Nat.{ℕ}
use lib.IntN.{ℤ, ◌-ℤ◌}
use Rattle.settings.specs.declared.Settings.{Settings}
use Rattle.dosing.specs.Rules.{units, step_of}
use Rattle.dosing.specs.declared.Units.{Units}
use Rattle.dosing.specs.declared.Gates.{Gates}
use Rattle.dosing.specs.declared.Phase.{Phase}
use Rattle.dosing.specs.declared.Phase.TheVariants.{Ready, Coarse, Fine, Hold, Settle, Discharge, Load, Calm, DoseCoarse, DoseFine, DoseSettle}
use Rattle.dosing.specs.declared.Seen.{Seen}
use Rattle.dosing.specs.declared.Moved.{Moved}
use Rattle.channels.specs.Channels.{outputs_of}
use Rattle.counters.specs.Counters.{counters_after}
use Rattle.counters.specs.declared.Counters.{Counters}
use Rattle.scale.specs.Scale.{filtered_lent, filter_of, calm_by_mean, calm_by_gates, over_capacity, seen_by}
use Rattle.stepping.specs.Stepping.{sampled_by, sample_of, at_ready, unstarted_of, stepped_by, stepped_of}
use Rattle.stepping.specs.declared.Sampled.{Sampled}
use Rattle.stepping.specs.declared.Stepped.{Stepped}

-- the phases that are not Ready
pub not_ready : (p : Phase) → p ≢ Ready → false ≡ at_ready p
unfolding at_ready
not_ready Ready h = absurd (h refl)
not_ready (Coarse w0) h = refl
not_ready (Fine w0) h = refl
not_ready Hold h = refl
not_ready (Settle w0 n) h = refl
not_ready (Discharge w0 w_s settled) h = refl
not_ready Load h = refl
not_ready (Calm n) h = refl
not_ready (DoseCoarse w_h) h = refl
not_ready (DoseFine w_h) h = refl
not_ready (DoseSettle w_h n) h = refl

-- what the parts of steps 4 and 5 give
pub samples-so : (set : Settings) (gates : Gates) (first : Bool) (samples : List ℤ) (held : ℕ) (previous : Units) (s : ℕ) {n calm : ℕ} {f : Units}
    → n ≡ filter_of set gates
    → f ≡ units (filtered_lent samples held n)
    → calm ≡ calm_by_mean first f.v previous.v s
    → ◌≡◌ {A = Sampled} (record { f = f; s = calm }) (sample_of set gates first samples held previous s)
unfolding sample_of sampled_by
samples-so set gates first samples held previous s p m k = rw (k, m, p)

-- what the parts of steps 7 and 8 give
pub steps-so : (set : Settings) (began : Phase) (f z : Units) (s : ℕ) (gates : Gates) (n : Counters) (start : Bool) {t : Seen} {m : Moved} {unstarted alarm : Bool} {calm outputs : ℕ} {after : Counters}
    → t ≡ seen_by set f z s start
    → m ≡ step_of set began t
    → unstarted ≡ unstarted_of began start m.phase
    → alarm ≡ over_capacity set (f.v -ℤ m.z.v)
    → calm ≡ calm_by_gates gates m.gates s
    → outputs ≡ outputs_of m.gates alarm
    → after ≡ counters_after n m.dose
    → ◌≡◌ {A = Stepped} (record { phase = m.phase; z = m.z; s = calm; gates = m.gates; alarm = alarm; outputs = outputs; dose = m.dose; counters = after; unstarted = unstarted }) (stepped_of set began f z s gates n start)
unfolding stepped_of stepped_by
steps-so set began f z s gates n start {m = m} et em eu ea es eo en =
    let moved : m ≡ step_of set began (seen_by set f z s start) = em ∙ ap (step_of set began) et in
    rw (eo, eu, en, es, ea, moved)
