-- What the state keeps of the last tick, seen from outside; and what follows a tick without being one leaves every reason (document 02, W6). Assumes nothing.
use Rattle.std.specs.Prelude.{◌≡◌, Bool, false, ◌&&◌, List, ℕ, ◌≤◌, ℤ, pos, ◌-ℤ◌, Option, Some, None}
use Rattle.std.proofs.Math.Path.{refl, subst}
use Rattle.std.proofs.Common.{sym, ap, ◌∙◌, ⊎_elim}
use Rattle.std.proofs.Math.Bool.{true, not, and-false}
use Rattle.std.proofs.Math.Dec.{eqb}
use Rattle.std.specs.Int.Signed.{lt_z}
use Rattle.laws.specs.Pick.{pick_all, pick-if}
use Rattle.laws.specs.Whole.{false-true}
use Rattle.paper.specs.Answer.{Answer, done, refused, fault}
use Rattle.settings.specs.declared.Settings.{Settings}
use Rattle.dosing.specs.Rules.{shut}
use Rattle.dosing.specs.Gates.{gates_of}
use Rattle.dosing.specs.Laws.{ready-shut}
use Rattle.dosing.specs.declared.Units.{Units}
use Rattle.dosing.specs.declared.Phase.TheVariants.{Ready}
use Rattle.channels.specs.Channels.{start_of}
use Rattle.asking.specs.Asking.{Asked}
use Rattle.counters.specs.Counters.{counters}
use Rattle.controller.specs.State.{with_z, with_counters}
use Rattle.stepping.specs.Stepping.{at_ready, unstarted_of}
use Rattle.controller.specs.Tick.{Result, Told, w_of, step7, step8, tick_of}
use Rattle.controller.specs.Ready.{ready_in, is_ready}
use Rattle.setup.specs.Setup.{after, taken, settings_of, reset_answer, reset_of, link_of}
use Rattle.readout.specs.Readout.{zeroable}
use Rattle.controller.specs.Line.{Replied, asked_of, zeroed_by, replied, replies_to, request_of}
use Rattle.panel.specs.Modbus.{modbus_of}
use Rattle.panel.specs.Laws.{modbus-only}
use Rattle.controller.specs.Sound.{Sound, Waited}
use Rattle.controller.specs.Bounds.{clear-faulted, ready-is}
use Rattle.controller.specs.Keeps.{tick-sound, asked-zero}
use Rattle.controller.specs.declared.Controller.{Controller}
use Rattle.controller.specs.declared.Fault.{Fault}
use Rattle.reasons.specs.Reasons.{no_start, settling_or, lead_or, phase_cause, gate_by, gate_cause, why_of}
use Rattle.reasons.specs.Answers.{unstarted-why}
use Rattle.reasons.specs.Same.{found, Goes, goes_on, tick_goes}

-- ---- the last tick

module _ (c : Controller) (x : ℤ) (i : ℕ) (s : Sound c) (h : i ≤ 15) where
  abbrev next : Controller
  next = (tick_of c x i).next

  unwaited : (b : Bool) (why : Fault) → next.condition ≡ Some why → Waited b next.condition next.phase next.set (next.f.v -ℤ next.z.v) → b ≡ false
  unwaited true why e w = clear-faulted (sym w.0 ∙ e)
  unwaited false why e w = refl

  ready-clear : (d : Controller) → d.condition ≡ None → is_ready d ≡ at_ready d.phase
  unfolding is_ready ready_in
  ready-clear d e = rw e

  ready-fault : (d : Controller) (why : Fault) → d.condition ≡ Some why → is_ready d ≡ false
  unfolding is_ready ready_in
  ready-fault d why e = rw e

  rule-unstarted : Goes c x i → next.unstarted ≡ ((at_ready c.phase && not (start_of c.set c.link i)) && at_ready next.phase)
  unfolding step7 step8 found unstarted_of
  rule-unstarted g =
      subst (λ (r : Result Told). r.next.unstarted ≡ ((at_ready c.phase && not (start_of c.set c.link i)) && at_ready r.next.phase)) (sym (goes_on c x i g)) refl

  -- after a tick that is not refused the field tells that it began and ended in Ready with start off
  pub tick-unstarted : next.unstarted ≡ ((is_ready c && not (start_of c.set c.link i)) && is_ready next)
  tick-unstarted = go next.condition refl
    where
      go : (k : Option Fault) → next.condition ≡ k → next.unstarted ≡ ((is_ready c && not (start_of c.set c.link i)) && is_ready next)
      go None e = let g = tick_goes c x i h e in rw (ready-clear c g.clear, ready-clear next e) (rule-unstarted g)
      go (Some why) e = unwaited next.unstarted why e (tick-sound c x i s).unstarted ∙ sym (ap (λ (b : Bool). (is_ready c && not (start_of c.set c.link i)) && b) (ready-fault next why e) ∙ and-false (is_ready c && not (start_of c.set c.link i)))

-- where the field is true the box is in Ready with outputs 1 to 3 shut, and in AL2 w is at least D
pub unstarted-is : (c : Controller) → Sound c → c.unstarted ≡ true → (is_ready c ≡ true) × (c.gates ≡ shut) × (c.set.algorithm ≡ 2 → lt_z (w_of c) (pos c.set.dose) ≡ false)
unfolding is_ready ready_in at_ready w_of
unstarted-is c s h =
    let w : Waited true c.condition c.phase c.set (c.f.v -ℤ c.z.v) = rw h at s.unstarted in
    (rw (w.0, w.1), s.gates ∙ ap (gates_of c.set) w.1 ∙ ready-shut c.set, w.2)

-- ---- what follows it

module _ (k : ℕ) where
  abbrev Same : Controller → Controller → Type 0
  Same c d = why_of d k ≡ why_of c k

  -- the link start
  pub link-why : (c : Controller) (on : Bool) → Same c (link_of c on)
  unfolding link_of why_of gate_cause w_of
  link-why c on = refl

  -- a counter reset
  pub reset-why : (c : Controller) → Same c (reset_of c).next
  unfolding reset_of after why_of gate_cause w_of
  reset-why c = go (reset_answer c)
    where
      go : (a : Answer (Unit {0})) → Same c (after a (with_counters (counters 0 0) c) c)
      go (done u) = refl
      go (refused n vs) = refl
      go (fault n vs) = refl

  -- a zero in Ready
  zero-why : (c : Controller) (z : Units) → c.phase ≡ Ready → Same c (with_z z c)
  unfolding why_of gate_cause gate_by phase_cause settling_or lead_or
  zero-why c z e = rw e

  -- a line request, C0 too
  pub request-why : (c : Controller) (bytes : List ℕ) (room : ℕ) → Same c (request_of c bytes room).next
  unfolding request_of replies_to replied zeroed_by
  request-why c bytes room = go (asked_of c bytes) (asked-zero c bytes)
    where
      go : (a : Answer Asked) → ((x : Asked) → a ≡ done x → eqb x.operation 0xC0 ≡ true → (is_ready c ≡ true) × (zeroable c.set c.window ≡ true)) → Same c (replies_to c room a).next
      go (done a) zeroes =
          pick_all (λ (r : Result Replied). Same c r.next) _
          (pick-if (Same c) (eqb a.operation 0xC0) (λ e. zero-why c _ (ready-is c (zeroes a refl e).0).1) (λ e. refl))
          refl
      go (refused n vs) zeroes = refl
      go (fault n vs) zeroes = refl

  -- a MODBUS frame, an accepted write too
  pub modbus-why : (c : Controller) (frame : List ℕ) (room : ℕ) → Same c (modbus_of c frame room).next
  modbus-why c frame room =
      ⊎_elim (λ e. ap (λ (d : Controller). why_of d k) e) (λ w. ap (λ (d : Controller). why_of d k) w.sets ∙ link-why c w.on) (modbus-only c frame room)

-- a set that is taken leaves no tick to speak of
pub set-why : (c : Controller) (set : Settings) (k : ℕ) → (settings_of c set).answer ≡ done tt → why_of (settings_of c set).next k ≡ done no_start → ⊥
unfolding settings_of after taken
set-why c set k e h = false-true (rw e at (unstarted-why (settings_of c set).next k h))
