-- The ways a tick of a sound controller can go. Assumes nothing.
use Rattle.std.specs.Prelude.{◌≡◌, Bool, [], ℕ, ◌≤◌, ◌<◌, ltb, ℤ, nat_abs, Option, Some, None}
use Rattle.std.proofs.Math.Path.{refl}
use Rattle.std.proofs.Common.{sym, subst, arith}
use Rattle.std.proofs.Math.Bool.{false}
use borrow.Author.Tests.{ltb-true, ltb-false}
use Rattle.laws.specs.Pick.{pick-if}
use Rattle.paper.specs.Answer.{Answer, refused}
use Rattle.paper.specs.Numbers.{R1}
use Rattle.window.specs.Window.{samples_of, push_of}
use Rattle.window.specs.Laws.{push-length}
use Rattle.dosing.specs.Rules.{units}
use Rattle.channels.specs.Channels.{runs_after, watch_of}
use Rattle.channels.specs.Laws.{NoLonger, runs-most, watch-ways}
use Rattle.channels.specs.declared.Runs.{Runs}
use Rattle.scale.specs.Scale.{outside, filtered, filter_of, none}
use Rattle.scale.specs.Laws.{inside-within, push-held, filtered-within, calm-by-mean-most}
use Rattle.controller.specs.State.{with_window, with_f, with_s, with_runs, with_inputs, with_unstarted}
use Rattle.controller.specs.Tick.{Result, Told, still, faulted, says_fault, step7, mismatched, steps6to8, steps4and5, step3, step2, tick_of}
use Rattle.controller.specs.Sound.{Sound, Watched}
use Rattle.controller.specs.Setters.{inputs-sound, calm-sound, runs-sound, filter-sound, faulted-sound, unstarted-sound}
use Rattle.controller.specs.Bounds.{push-within}
use Rattle.controller.specs.declared.Controller.{Controller}
use Rattle.controller.specs.declared.Fault.{Fault}
use Rattle.controller.specs.declared.Fault.TheVariants as F

watched-most : (k : Option Fault) (r : Runs) → Watched k r → NoLonger 64 r
watched-most None r h = omega arith
watched-most (Some why) r h = h

pub clear-watched : (k : Option Fault) (r : Runs) → k ≡ None → Watched None r → Watched k r
clear-watched k r e h = subst (λ (x : Option Fault). Watched x r) (sym e) h

-- ---- the ways

-- what steps 7 and 8 find of the controller c that a tick began with
pub record Reaches (c d : Controller) : Type 0 where
  pub sound : Sound d
  pub clear : d.condition ≡ None
  pub set : d.set ≡ c.set
  pub z : d.z ≡ c.z
  pub phase : d.phase ≡ c.phase
  pub gates : d.gates ≡ c.gates
  pub counters : d.counters ≡ c.counters

-- the same, each part in its place
abbrev Unmoved : Controller → Controller → Type 0
Unmoved c d =
    Sound d
    × (d.condition ≡ None)
    × (d.set ≡ c.set)
    × (d.z ≡ c.z)
    × (d.phase ≡ c.phase)
    × (d.gates ≡ c.gates)
    × (d.counters ≡ c.counters)

module _ (Q : Result Told → Type 0) (faults : (why : Fault) (d : Controller) → Sound (faulted why d).next → Q (faulted why d)) where
  mismatched-ways : (c : Controller) → Sound c → c.unstarted ≡ false → (r : Runs) (next : Result Told) → NoLonger 64 r → (Watched None r → Q next) → Q (mismatched (watch_of r) (with_runs r c) next)
  unfolding mismatched
  mismatched-ways c s u r next h go =
      watch-ways (λ (a : Answer (Unit {0})). Q (mismatched a (with_runs r c) next)) r
      (λ channel a b. faults (F.F14 channel) (with_runs r c) (faulted-sound c s (F.F14 channel) r h (a, b) u)) go

  steps6to8-ways : (c : Controller) (start : Bool) (n : ℕ) → Sound c → c.condition ≡ None → c.unstarted ≡ false → n ≤ 4032
      → ((d : Controller) → Unmoved c d → Q (step7 d start)) → Q (steps6to8 c start n)
  unfolding steps6to8
  steps6to8-ways c start n s e u h go =
      let t = calm-sound c s n h in
      let r = runs_after c.set c.gates c.inputs c.runs in
      let d = with_runs r (with_s n c) in
      mismatched-ways (with_s n c) t u r (step7 d start) (runs-most c.set c.gates c.inputs c.runs (watched-most c.condition c.runs s.runs))
      (λ w. go d (runs-sound (with_s n c) t r (clear-watched c.condition r e w), e, refl, refl, refl, refl, refl))

  steps4and5-ways : (c : Controller) (x : ℤ) → Sound c → c.condition ≡ None → c.unstarted ≡ false → nat_abs x ≤ 900000
      → ((d : Controller) (start : Bool) → Unmoved c d → Q (step7 d start)) → Q (steps4and5 c x)
  unfolding steps4and5
  steps4and5-ways c x s e u h go =
      let held = push_of c.window x in
      let f = filtered held (filter_of c.set c.gates) in
      let w = push-within c s x h in
      let t = filter-sound c s held (units f) (push-length c.window x s.places) (push-held c.window x) w (filtered-within held _ w) u in
      steps6to8-ways (with_f (units f) (with_window held c)) _ _ t e u (calm-by-mean-most (none (samples_of c.window)) f c.f.v c.s)
      (λ d a. go d _ a)

  step3-ways : (c : Controller) (x : ℤ) (i : ℕ) → Sound c → c.condition ≡ None → i ≤ 15
      → ((d : Controller) (start : Bool) → Unmoved c d → Q (step7 d start)) → Q (step3 c x i)
  unfolding step3
  step3-ways c x i s e h go =
      let d = with_unstarted false (with_inputs i c) in
      let t = unstarted-sound (with_inputs i c) (inputs-sound c s i h) false tt in
      pick-if Q (outside x)
      (λ a. faults F.F21 d (faulted-sound d t F.F21 c.runs (watched-most c.condition c.runs s.runs) tt refl))
      (λ a. steps4and5-ways d x t e refl (inside-within x a) go)

  step2-ways : (k : Option Fault) (c : Controller) (x : ℤ) (i : ℕ) → Sound c → c.condition ≡ k → i ≤ 15
      → ((why : Fault) → c.condition ≡ Some why → Q (still c (says_fault why)))
      → ((d : Controller) (start : Bool) → Unmoved c d → Q (step7 d start)) → Q (step2 k c x i)
  unfolding step2
  step2-ways None c x i s e h again go = step3-ways c x i s e h go
  step2-ways (Some why) c x i s e h again go = again why e

  -- R1, the same fault again, a fault, or the phase rule
  pub tick-ways : (c : Controller) (x : ℤ) (i : ℕ) → Sound c
      → (15 < i → Q (still c (refused R1 [])))
      → ((why : Fault) → c.condition ≡ Some why → Q (still c (says_fault why)))
      → ((d : Controller) (start : Bool) → Reaches c d → Q (step7 d start))
      → Q (tick_of c x i)
  unfolding tick_of
  tick-ways c x i s above again go =
      pick-if Q (ltb 15 i) (λ a. above (ltb-true 15 i a))
      (λ a. step2-ways c.condition c x i s refl (omega (arith, ltb-false 15 i a)) again
      (λ d start a. go d start (record { sound = a.0; clear = a.1; set = a.2; z = a.3; phase = a.4; gates = a.5; counters = a.6 })))
