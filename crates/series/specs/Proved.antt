-- Demand 3 holds of every series of calls from a fresh controller. The statement itself stands in proofs/Proved. Assumes nothing.
use Rattle.std.specs.Prelude.{◌≡◌, refl, Bool, true, false, List, ℕ, ◌≤◌, ltb, ℤ, Option, Some, None}
use Rattle.std.proofs.Common.{sym, ap, ap₂, ◌∙◌, arith, ltb-false}
use Rattle.laws.specs.Pick.{pick-if}
use Rattle.laws.specs.Whole.{true-false, false-true}
use Rattle.settings.specs.declared.Settings.{Settings}
use Rattle.dosing.specs.Gates.{filling_open}
use Rattle.controller.specs.declared.Controller.{Controller}
use Rattle.controller.specs.declared.Fault.{Fault}
use Rattle.scale.specs.Scale.{over_capacity}
use Rattle.controller.specs.Tick.{Result, Told, tick_of}
use Rattle.controller.specs.State.{fresh_of}
use Rattle.controller.specs.Sound.{Sound}
use Rattle.controller.specs.Keeps.{tick-sound}
use Rattle.controller.specs.Promises.{never-together, fault-unfilled, tick-unfilled}
use Rattle.controller.specs.Outside.{w_at, clear}
use Rattle.controller.specs.OutsideLaws.{tick-set, tick-weight}
use Rattle.series.specs.Events.{Event, run, Outside, nothing_seen, seen, hands_back}
use Rattle.series.specs.Statement.{accepted, Demand3}
use Rattle.series.specs.Walk.{Accords, CountsAll}

-- in a fault
unfilled : (c : Controller) → Sound c → (k : Option Fault) → c.condition ≡ k → clear c.condition ≡ false → filling_open c.set c.gates ≡ false
unfolding clear
unfilled c s None e h = true-false (rw e at h)
unfilled c s (Some why) e h = fault-unfilled c why s e

-- a tick that is no refusal has inputs of at most 15
taken : (c : Controller) (x : ℤ) (i : ℕ) → accepted (tick_of c x i).answer ≡ true → i ≤ 15
unfolding tick_of accepted
taken c x i =
    pick-if (λ (r : Result Told). accepted r.answer ≡ true → i ≤ 15) (ltb 15 i) (λ e h. false-true h)
    (λ e h. ltb-false 15 i e)

-- after a tick over capacity, in a fault or not
over-unfilled : (c : Controller) (o : Outside) (x : ℤ) (i : ℕ) → Accords c o → i ≤ 15 → over_capacity c.set (w_at c x (tick_of c x i).next) ≡ true → (ok : Bool) → clear (tick_of c x i).next.condition ≡ ok → filling_open c.set (tick_of c x i).next.gates ≡ false
over-unfilled c o x i k h over true e =
    let same = tick-set c x i o.notes k.sound k.agrees in
    let weight = tick-weight c x i o.notes k.sound k.agrees h e in
    ap (λ (t : Settings). filling_open t (tick_of c x i).next.gates) (sym same)
    ∙ tick-unfilled c x i k.sound h (ap₂ over_capacity same (sym weight) ∙ over)
over-unfilled c o x i k h over false e =
    let same = tick-set c x i o.notes k.sound k.agrees in
    ap (λ (t : Settings). filling_open t (tick_of c x i).next.gates) (sym same)
    ∙ unfilled (tick_of c x i).next (tick-sound c x i k.sound) _ refl e

pub demanded : (es : List Event) → Accords (run fresh_of es) (seen fresh_of nothing_seen es)
    → (hands_back fresh_of es ≡ true → CountsAll (run fresh_of es).counters (seen fresh_of nothing_seen es)) → Demand3 es
demanded es k a =
    let c = run fresh_of es in
    record {
      never_both = never-together c k.sound;
      over-capacity = λ x i ok h. over-unfilled c _ x i k (taken c x i ok) h _ refl;
      in-fault = unfilled c k.sound _ refl;
      count-on = k.counts.count;
      total-on = k.counts.total;
      count = λ h. omega (arith, (a h).count);
      total = λ h. omega (arith, (a h).total);
      sound = k.sound;
    }
