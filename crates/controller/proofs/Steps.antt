-- The steps of a tick, put together from what their parts give. Assumes nothing.
use mathlib.Core.Path.{◌≡◌, refl, sym, ap, ap₂, subst, ◌∙◌}
use mathlib.Core.Bool.{Bool, true, false}
use mathlib.Core.List.{[], ◌∷◌}
use Prim.Native.Nat.{ℕ, ◌≤◌, ◌<◌}
use lib.Dec.{eqb}
use lib.IntN.{ℤ}
use lib.ListN.{length}
use borrow.Author.Tests.{lt-ltb, le-ltb}
use Rattle.std.specs.Prelude.{Option, Some, None, Ok, IsSomeAnd}
use Rattle.std.specs.Option.{MatchOption}
use Rattle.laws.specs.Pick.{pick-t, pick-f}
use Rattle.paper.specs.Answer.{done, refused}
use Rattle.paper.specs.Numbers.{R1}
use Rattle.window.specs.Window.{samples_of, push_of}
use Rattle.window.specs.declared.Window.{Window}
use Rattle.dosing.specs.Rules.{step_of}
use Rattle.dosing.specs.declared.Units.{Units}
use Rattle.channels.specs.Channels.{start_of, runs_after, watch_of}
use Rattle.channels.specs.Says.{says_watch}
use Rattle.channels.specs.declared.Runs.{Runs}
use Rattle.scale.specs.Scale.{outside, filtered, filter_of, none}
use Rattle.counters.specs.Counters.{record_of, records_of}
use Rattle.counters.specs.declared.Counters.{Counters}
use Rattle.counters.specs.declared.Record.{Record}
use Rattle.dosing.specs.declared.Dose.{Dose}
use Rattle.scale.specs.Laws.{inside-within, filtered-within, lent-filtered, none-held, seen-weight}
use Rattle.stepping.specs.Stepping.{sampled_by, sample_of, unstarted_of, stepped_by, stepped_of}
use Rattle.stepping.specs.declared.Sampled.{Sampled}
use Rattle.stepping.specs.declared.Stepped.{Stepped}
use Rattle.controller.specs.State.{with_window, with_z, with_f, with_s, with_runs, with_phase, with_gates, with_alarm, with_inputs, with_counters, with_unstarted}
use Rattle.controller.specs.Tick.{Result, Told, still, says_fault, faulted, step8, w_of, seen_of, step7, mismatched, steps6to8, steps4and5, step3, step2, tick_of}
use Rattle.controller.specs.Sound.{Sound}
use Rattle.controller.specs.Bounds.{push-within}
use Rattle.controller.specs.Keeps.{tick-sound}
use Rattle.controller.specs.Says.{Ticks, records_in_dose, told_by}
use Rattle.controller.specs.Parts.{Gives, Small}
use Rattle.controller.specs.declared.Controller.{Controller}
use Rattle.controller.specs.declared.Fault.{Fault}
use Rattle.controller.specs.declared.Fault.TheVariants as F
use Rattle.controller.specs.declared.Outputs.{Outputs}
use Rattle.controller.specs.declared.Ticked.{Ticked}

-- a rule by another name
gives : {a b : Result Told} {r : Ticked} → a ≡ b → Gives a r → Gives b r
gives {r = r} e g = subst (λ (x : Result Told). Gives x r) e g

-- ---- steps 7 and 8

-- what the phase rule and step 8 make of a controller whose F and Z are small
stepped-so : (c : Controller) (start : Bool) → Small c.f c.z
    → (let m = step_of c.set c.phase (seen_of c start) in
    stepped_of c.set c.phase c.f c.z c.s c.gates c.counters start
    ≡ stepped_by c.set c.f c.s c.gates c.counters (unstarted_of c.phase start m.phase) m)
unfolding stepped_of seen_of w_of
stepped-so c start h = rw (seen-weight c.set c.f c.z c.s start h.mean h.zero)

pub steps-7-8 : (c : Controller) (start : Bool) {to : Stepped} {told : Outputs} → Small c.f c.z
    → to ≡ stepped_of c.set c.phase c.f c.z c.s c.gates c.counters start
    → told_by told ≡ record { outputs = to.outputs; doses = records_of c.set.product to.counters to.dose }
    → Gives (step7 c start) (record { next = with_unstarted to.unstarted (with_counters to.counters (with_alarm to.alarm (with_gates to.gates (with_s to.s (with_z to.z (with_phase to.phase c)))))); answer = Ok told })
unfolding step7 step8 stepped_by
steps-7-8 c start h e a = let so = e ∙ stepped-so c start h in record { next = rw so; says = ap (λ (t : Told). done t) a ∙ rw so }

-- the dose record is told of where a dose completed
pub tells-so : (product : ℕ) (after : Counters) (d : Option Dose) (r : Option Record) {P : Dose → Record → Type 0}
    → ((x : Dose) (y : Record) → P x y → y ≡ record_of product after x.amount x.settled)
    → MatchOption d (r ≡ None) (λ x. IsSomeAnd r (P x))
    → records_in_dose r ≡ records_of product after d
unfolding records_of
tells-so product after None r k h = rw h
tells-so product after (Some x) None k h = absurd h
tells-so product after (Some x) (Some y) k h = ap (λ (z : Record). z ∷ []) (k x y h)

-- ---- from step 3 on

-- the sample is kept, with F and S by the rule
pub record Kept (c : Controller) (x : ℤ) (window : Window) (to : Sampled) : Type 0 where
  pub pushed : window ≡ push_of c.window x
  pub read : to ≡ sampled_by (none (samples_of c.window)) (filtered (push_of c.window x) (filter_of c.set c.gates)) c.f.v c.s

-- of a sound controller, whose inputs of this tick are kept
module _ (c : Controller) (inputs : ℕ) {kept : Controller} (e : kept ≡ with_unstarted false (with_inputs inputs c)) (s : Sound c) where
  pub kept-so : (x : ℤ) (window : Window) {to : Sampled} → length window.samples ≡ 128
      → window ≡ push_of kept.window x
      → to ≡ sample_of kept.set kept.gates (eqb kept.window.held 0) window.samples window.held kept.f kept.s
      → Kept kept x window to
  unfolding sample_of
  kept-so x window l w k =
      let n = filter_of kept.set kept.gates in
      let mean = lent-filtered window n l ∙ ap (λ (v : Window). filtered v n) w in
      let first = sym (none-held kept.window (rw e s.places)) in
      record { pushed = w; read = k ∙ ap₂ (λ (b : Bool) (f : ℤ). sampled_by b f kept.f.v kept.s) first mean }

  -- F and Z of a tick are small
  pub mean-small : (x : Units) {window : Window} {to : Sampled} → outside x.v ≡ false → Kept kept x.v window to → Small to.f kept.z
  unfolding sampled_by
  mean-small x h k =
      record { mean = rw k.read (filtered-within (push_of kept.window x.v) (filter_of kept.set kept.gates) (rw e (push-within c s x.v (inside-within x.v h)))); zero = rw e s.zero }

module _ (c : Controller) (x : ℤ) (inputs : ℕ) where
  pub step3-outside : {r : Ticked} → outside x ≡ true → Gives (faulted F.F21 (with_unstarted false (with_inputs inputs c))) r → Gives (step3 c x inputs) r
  unfolding step3
  step3-outside h g = gives (sym (pick-t _ _ _ h)) g

  module _ {kept : Controller} {window : Window} {to : Sampled} {start : Bool} {runs : Runs} (watch : Option ℕ) (inside : outside x ≡ false)
      (i : kept ≡ with_unstarted false (with_inputs inputs c))
      (k : Kept kept x window to)
      (o : start ≡ start_of kept.set kept.link inputs)
      (e : runs ≡ runs_after kept.set kept.gates inputs kept.runs)
      (says : says_watch watch ≡ watch_of runs) where
    -- the sample and the inputs are kept, with F, S and the runs
    abbrev moved : Controller
    moved = with_runs runs (with_s to.s (with_f to.f (with_window window kept)))

    sixth : mismatched (says_watch watch) moved (step7 moved start) ≡ step3 c x inputs
    unfolding step3 steps4and5 steps6to8 sampled_by
    sixth = rw (says, e, o, k.read, k.pushed, i) (sym (pick-f _ _ _ inside))

    pub reached : {channel : ℕ} {r : Ticked} → watch ≡ Some channel → Gives (faulted (F.F14 channel) moved) r → Gives (step3 c x inputs) r
    unfolding mismatched
    reached h g = gives (sym (ap (λ (w : Option ℕ). mismatched (says_watch w) moved (step7 moved start)) h) ∙ sixth) g

    pub not-reached : {r : Ticked} → watch ≡ None → Gives (step7 moved start) r → Gives (step3 c x inputs) r
    unfolding mismatched
    not-reached h g = gives (sym (ap (λ (w : Option ℕ). mismatched (says_watch w) moved (step7 moved start)) h) ∙ sixth) g

-- ---- steps 1 and 2

module _ (c : Controller) (x : ℤ) (inputs : ℕ) {r : Ticked} where
  ticks : Sound c → Gives (tick_of c x inputs) r → Ticks c x inputs r
  ticks s g = record { next = g.next; says = g.says; sound = rw g.next (tick-sound c x inputs s) }

  pub tick-refused : Sound c → 15 < inputs → Gives (still c (refused R1 [])) r → Ticks c x inputs r
  unfolding tick_of
  tick-refused s h g = ticks s (gives (sym (pick-t _ _ _ (lt-ltb 15 inputs h))) g)

  pub tick-clear : Sound c → inputs ≤ 15 → c.condition ≡ None → Gives (step3 c x inputs) r → Ticks c x inputs r
  unfolding tick_of step2
  tick-clear s h e g = ticks s (gives (sym (pick-f _ _ _ (le-ltb 15 inputs h) ∙ rw e refl)) g)

  pub tick-fault : (why : Fault) → Sound c → inputs ≤ 15 → c.condition ≡ Some why → Gives (still c (says_fault why)) r → Ticks c x inputs r
  unfolding tick_of step2
  tick-fault why s h e g = ticks s (gives (sym (pick-f _ _ _ (le-ltb 15 inputs h) ∙ rw e refl)) g)
