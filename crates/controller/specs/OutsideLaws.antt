-- One tick seen from outside: what the phases keep is what was noted, and the doses that are counted and told of are the doses seen. Assumes nothing.
use Rattle.std.specs.Prelude.{◌≡◌, Bool, true, false, not, ◌&&◌, ℕ, ◌+◌, ◌≤◌, leb, ltb, eqb, ℤ, ◌-ℤ◌, take, Option, Some, None}
use Rattle.std.proofs.Math.Path.{refl, sym, ap, subst}
use Rattle.std.proofs.Common.{◌∙◌, arith}
use Rattle.std.proofs.Math.Bool.{and-false, and-not_self, not-and_self}
use mathlib.Core.List.{List, [], ◌∷◌}
use Rattle.std.proofs.Math.IntN.{+ℤ_invr}
use borrow.Author.Tests.{eqb-true, lt-leb, ltb-true}
use Rattle.laws.specs.Pick.{pick, pick-t, pick-f, pick_all, pick-if}
use Rattle.laws.specs.Whole.{false-true}
use Rattle.paper.specs.Answer.{Answer, done, refused, fault}
use Rattle.window.specs.Mean.{mean_of}
use Rattle.window.specs.Window.{samples_of, push_of}
use Rattle.window.specs.Laws.{samples-push}
use Rattle.settings.specs.declared.Settings.{Settings}
use Rattle.dosing.specs.Rules.{complete, near_zero, zeroed, not_below_zero, amount_of, coarse_stage, fine_stage, discharge_opens, dose_coarse, dose_fine, step_of}
use Rattle.dosing.specs.Gates.{gates_of, belongs}
use Rattle.dosing.specs.Ways.{on, coarse-ways, fine-ways, fill-ways, hold-ways, settle-ways, discharge-ways, load-ways, calm-ways, dose-coarse-ways, dose-fine-ways, dose-settle-ways, ready-ways}
use Rattle.dosing.specs.declared.Units.{Units}
use Rattle.dosing.specs.declared.Phase.{Phase}
use Rattle.dosing.specs.declared.Phase.TheVariants.{Ready, Coarse, Fine, Hold, Settle, Discharge, Load, Calm, DoseCoarse, DoseFine, DoseSettle}
use Rattle.dosing.specs.declared.Seen.{Seen}
use Rattle.dosing.specs.declared.Dose.{Dose}
use Rattle.dosing.specs.declared.Moved.{Moved}
use Rattle.controller.specs.State.{with_inputs, with_unstarted}
use Rattle.counters.specs.Counters.{counters_after, records_of}
use Rattle.counters.specs.Laws.{counted_in, Tells, amounts_in, counts-in, tells-one}
use Rattle.counters.specs.declared.Counters.{Counters}
use Rattle.scale.specs.Scale.{outside, filtered, filter_of}
use Rattle.stepping.specs.Stepping.{at_ready}
use Rattle.controller.specs.Tick.{Result, Told, still, says_fault, faulted, step8, w_of, seen_of, step7, mismatched, steps6to8, steps4and5, step3, step2, tick_of}
use Rattle.controller.specs.Sound.{Sound}
use Rattle.controller.specs.Outside.{w_at, clear, in_dose_settle, shuts3, leaves_settle, completes, Noted, begins, opens3, noted, amount_seen, doses_seen, Agrees}
use Rattle.controller.specs.declared.Controller.{Controller}
use Rattle.controller.specs.declared.Fault.{Fault}
use Rattle.controller.specs.declared.Fault.TheVariants as F

-- ---- what is said of a tick

-- an answer tells of exactly these amounts; a refusal and a fault tell of none
unfoldable pub Answers : Counters → List ℕ → Answer Told → Type 0
Answers n amounts (done t) = Tells n amounts t.doses
Answers n amounts (refused r vs) = amounts ≡ []
Answers n amounts (fault r vs) = amounts ≡ []

-- what a tick from c with the sample x and the inputs i comes to, seen from outside
record Shown (c : Controller) (x : ℤ) (i : ℕ) (m : Noted) (r : Result Told) : Type 0 where
  agrees : Agrees r.next.phase (noted c r.next (w_at c x r.next) m)
  counters : r.next.counters ≡ counted_in c.counters (doses_seen c x r.next m)
  records : Answers c.counters (doses_seen c x r.next m) r.answer
  set : r.next.set ≡ c.set
  weight : i ≤ 15 → clear r.next.condition ≡ true → w_at c x r.next ≡ r.next.f.v -ℤ r.next.z.v

-- ---- tests

one-low : (al : ℕ) → eqb al 1 ≡ true → leb 2 al ≡ false
one-low al h = lt-leb 2 al (omega (arith, eqb-true al 1 h))

-- ---- one step of the phase rule, seen from outside: from the phase p, with F

-- w after the step
abbrev after : ℤ → Moved → ℤ
after f to = f -ℤ to.z.v

-- the notes after the step
abbrev notes : Settings → Phase → ℤ → Moved → Noted → Noted
notes set p f to m =
    record {
      began = pick (at_ready p && not (at_ready to.phase)) (after f to) m.began;
      opened = pick (not (gates_of set p).three && to.gates.three) (after f to) m.opened;
    }

-- the step completes a dose
abbrev ends : Settings → Phase → Moved → Bool
ends set p to =
    pick (leb 2 set.algorithm) (in_dose_settle p && at_ready to.phase) (eqb set.algorithm 1 && ((gates_of set p).three && not to.gates.three))

abbrev amounts : Settings → Phase → ℤ → Moved → Noted → List ℕ
amounts set p f to m = pick (ends set p to) (amount_seen set m (after f to) ∷ []) []

record Matches (set : Settings) (p : Phase) (f : ℤ) (m : Noted) (to : Moved) : Type 0 where
  agrees : Agrees to.phase (notes set p f to m)
  doses : amounts_in to.dose ≡ amounts set p f to m

-- neither leaves the Settle of a dose nor shuts output 3
quiet : (al : ℕ) (leaves shuts : Bool) → leaves ≡ false → shuts ≡ false → pick (leb 2 al) leaves (eqb al 1 && shuts) ≡ false
quiet al leaves shuts a b = pick_all (λ (t : Bool). t ≡ false) (leb 2 al) a (rw b (and-false (eqb al 1)))

module _ (set : Settings) (f : ℤ) (m : Noted) (t : Seen) where
  -- a step that completes nothing
  silent : (p q : Phase) → Agrees q (notes set p f (on set q t) m) → ends set p (on set q t) ≡ false → Matches set p f m (on set q t)
  unfolding amounts_in
  silent p q a e = record { agrees = a; doses = sym (pick-f _ _ _ e) }

  goes : (p q : Phase) → Agrees q (notes set p f (on set q t) m) → (in_dose_settle p && at_ready q) ≡ false → ((gates_of set p).three && not (gates_of set q).three) ≡ false → Matches set p f m (on set q t)
  goes p q a l s = silent p q a (quiet set.algorithm _ _ l s)

  -- a step that completes a dose
  completed : (p : Phase) (amount : ℕ) (settled : Bool) → ends set p (complete amount settled t) ≡ true → amount ≡ amount_seen set m (f -ℤ t.z.v) → Matches set p f m (complete amount settled t)
  unfolding amounts_in Agrees
  completed p amount settled e a = record { agrees = tt; doses = ap (λ (n : ℕ). n ∷ []) a ∙ sym (pick-t _ _ _ e) }

-- w is F-Z, also after the zero
abbrev Net : ℤ → Seen → Type 0
Net f t = t.w.v ≡ f -ℤ t.z.v

zeroed-net : (set : Settings) (t : Seen) → Net t.f.v t → Net t.f.v (zeroed set t)
unfolding zeroed
zeroed-net set t e = pick_all (Net t.f.v) (near_zero set t.f.v) (sym (+ℤ_invr t.f.v)) e

-- a stage from a phase p other than the Settle of a dose, with output 3 shut: what it keeps was noted at the tick that began the cycle
module _ (set : Settings) (f : ℤ) (m : Noted) (t : Seen) (p : Phase) (w : Units)
    (leaves : in_dose_settle p ≡ false) (shuts : (gates_of set p).three ≡ false)
    (began : w.v ≡ pick (at_ready p && true) (f -ℤ t.z.v) m.began) where
  stage : (q : Phase) → Agrees q (notes set p f (on set q t) m) → Matches set p f m (on set q t)
  stage q a = goes set f m t p q a (rw leaves) (rw shuts)

  coarse-matches : Matches set p f m (coarse_stage set w t)
  unfolding Agrees at_ready
  coarse-matches =
      coarse-ways (Matches set p f m) set t w (λ e. stage Hold tt) (λ e. stage (Settle w 0) began) (λ e. stage (Fine w) began) (λ e. stage (Coarse w) began)

  fine-matches : Matches set p f m (fine_stage set w t)
  unfolding Agrees at_ready
  fine-matches =
      fine-ways (Matches set p f m) set t w (λ e. stage Hold tt) (λ e. stage (Settle w 0) began) (λ e. stage (Fine w) began)

  dose-coarse-matches : Matches set p f m (dose_coarse set w t)
  unfolding Agrees at_ready
  dose-coarse-matches =
      dose-coarse-ways (Matches set p f m) set t w (stage (DoseSettle w 0) began) (stage (DoseFine w) began) (stage (DoseCoarse w) began)

  dose-fine-matches : Matches set p f m (dose_fine set w t)
  unfolding Agrees at_ready
  dose-fine-matches = dose-fine-ways (Matches set p f m) set t w (stage (DoseSettle w 0) began) (stage (DoseFine w) began)

-- the amount by what the phase keeps is the amount by what was noted
module _ (set : Settings) (m : Noted) (w : Units) (w' : ℤ) (e : w.v ≡ w') where
  amount-fill : (w0 w_s : Units) → leb 2 set.algorithm ≡ false → w0.v ≡ m.began → w_s.v ≡ m.opened → amount_of set w0 w_s w ≡ amount_seen set m w'
  unfolding amount_of amount_seen pick
  amount-fill w0 w_s low a b = rw (low, a, b, e)

  amount-dose : (w_h : Units) → leb 2 set.algorithm ≡ true → w_h.v ≡ m.began → not_below_zero (w_h.v -ℤ w.v) ≡ amount_seen set m w'
  unfolding amount_seen pick
  amount-dose w_h high a = rw (high, a, e)

step-matches : (set : Settings) (p : Phase) (m : Noted) (t : Seen) → Net t.f.v t → belongs set.algorithm p ≡ true → Agrees p m → Matches set p t.f.v m (step_of set p t)
unfolding step_of discharge_opens Agrees at_ready in_dose_settle gates_of belongs pick
step-matches set Ready m t e b a =
    ready-ways (Matches set Ready t.f.v m) set t (goes set _ m t Ready Ready tt refl refl)
    (λ low. coarse-matches set t.f.v m (zeroed set t) Ready (zeroed set t).w refl refl (zeroed-net set t e))
    (λ high h. goes set _ m t Ready Load tt refl refl)
    (λ high. dose-coarse-matches set _ m t Ready t.w refl refl e)
step-matches set (Coarse w0) m t e b a =
    fill-ways (Matches set (Coarse w0) t.f.v m) set t _ (goes set _ m t (Coarse w0) Ready tt refl refl)
    (coarse-matches set _ m t (Coarse w0) w0 refl refl a)
step-matches set (Fine w0) m t e b a =
    fill-ways (Matches set (Fine w0) t.f.v m) set t _ (goes set _ m t (Fine w0) Ready tt refl refl)
    (fine-matches set _ m t (Fine w0) w0 refl refl a)
step-matches set Hold m t e b a =
    hold-ways (Matches set Hold t.f.v m) set t (goes set _ m t Hold Hold tt refl refl) (goes set _ m t Hold Ready tt refl refl)
step-matches set (Settle w0 n) m t e b a =
    settle-ways (Matches set (Settle w0 n) t.f.v m) set t w0 (n + 1)
    (goes set _ m t (Settle w0 n) (Discharge w0 t.w t.stable) (a, e) refl refl)
    (λ h. goes set _ m t (Settle w0 n) (Settle w0 (n + 1)) a refl refl)
step-matches set (Discharge w0 w_s settled) m t e b a =
    let low = one-low set.algorithm b in
    discharge-ways (Matches set (Discharge w0 w_s settled) t.f.v m) set t w0 w_s settled
    (completed set _ m t (Discharge w0 w_s settled) _ settled (rw (low, b)) (amount-fill set m t.w _ e w0 w_s low a.0 a.1))
    (goes set _ m t (Discharge w0 w_s settled) (Discharge w0 w_s settled) a refl refl)
step-matches set Load m t e b a =
    load-ways (Matches set Load t.f.v m) set t (silent set _ m t Load (Calm 0) tt (rw b))
    (λ h. goes set _ m t Load Load tt refl refl)
step-matches set (Calm n) m t e b a =
    calm-ways (Matches set (Calm n) t.f.v m) set t (n + 1) (goes set _ m t (Calm n) Ready tt refl refl)
    (λ h. goes set _ m t (Calm n) (Calm (n + 1)) tt refl refl)
step-matches set (DoseCoarse w_h) m t e b a = dose-coarse-matches set _ m t (DoseCoarse w_h) w_h refl refl a
step-matches set (DoseFine w_h) m t e b a = dose-fine-matches set _ m t (DoseFine w_h) w_h refl refl a
step-matches set (DoseSettle w_h n) m t e b a =
    dose-settle-ways (Matches set (DoseSettle w_h n) t.f.v m) set t w_h (n + 1)
    (completed set _ m t (DoseSettle w_h n) _ t.stable (rw b) (amount-dose set m t.w _ e w_h b a))
    (λ h. goes set _ m t (DoseSettle w_h n) (DoseSettle w_h (n + 1)) a refl refl)

-- ---- a tick

tells-of : (product : ℕ) (n k : Counters) (d : Option Dose) (amounts : List ℕ) → k ≡ n → amounts ≡ amounts_in d → Tells n amounts (records_of product (counters_after k d) d)
tells-of product n k d amounts e h = rw (e, h) (tells-one product n d)

-- F of the tick, worked out from the samples
abbrev mean : Controller → ℤ → ℤ
mean c x = mean_of (take (filter_of c.set c.gates) (take 128 (x ∷ samples_of c.window)))

-- no phase is both
settles-not-ready : (p : Phase) → (in_dose_settle p && at_ready p) ≡ false
unfolding in_dose_settle at_ready
settles-not-ready Ready = refl
settles-not-ready (Coarse w0) = refl
settles-not-ready (Fine w0) = refl
settles-not-ready Hold = refl
settles-not-ready (Settle w0 n) = refl
settles-not-ready (Discharge w0 w_s settled) = refl
settles-not-ready Load = refl
settles-not-ready (Calm n) = refl
settles-not-ready (DoseCoarse w_h) = refl
settles-not-ready (DoseFine w_h) = refl
settles-not-ready (DoseSettle w_h n) = refl

module _ (c : Controller) (x : ℤ) (i : ℕ) (m : Noted) where
  -- a refusal, or a standing fault
  still_seen : doses_seen c x c m ≡ []
  unfolding doses_seen completes leaves_settle shuts3
  still_seen =
      pick-f _ _ _
      (ap (λ (b : Bool). clear c.condition && b) (quiet c.set.algorithm _ _ (settles-not-ready c.phase) (and-not_self c.gates.three))
      ∙ and-false (clear c.condition))

  still_noted : noted c c (w_at c x c) m ≡ m
  unfolding noted begins opens3 pick
  still_noted = rw (and-not_self (at_ready c.phase), not-and_self c.gates.three)

  still-shown : (r : Answer Told) → Agrees c.phase m → Answers c.counters [] r → (i ≤ 15 → clear c.condition ≡ true → ⊥) → Shown c x i m (still c r)
  unfolding counted_in
  still-shown r a t out =
      record { agrees = rw still_noted a; counters = rw still_seen; records = rw still_seen t; set = refl; weight = λ h k. absurd (out h k) }

  -- a fault that ends the tick
  fault-seen : (why : Fault) (d : Controller) → doses_seen c x (faulted why d).next m ≡ []
  unfolding doses_seen completes faulted clear pick
  fault-seen why d = refl

  says_none : (why : Fault) → Answers c.counters [] (says_fault why)
  unfolding Answers says_fault
  says_none (F.F14 channel) = refl
  says_none F.F21 = refl

  faulted-shown : (why : Fault) (d : Controller) → d.counters ≡ c.counters → d.set ≡ c.set → Shown c x i m (faulted why d)
  unfolding Agrees faulted counted_in clear
  faulted-shown why d e set =
      record {
        agrees = tt;
        counters = e ∙ sym (ap (counted_in c.counters) (fault-seen why d));
        records = subst (λ (l : List ℕ). Answers c.counters l (says_fault why)) (sym (fault-seen why d)) (says_none why);
        set = set;
        weight = λ h k. false-true k;
      }

  -- the phase rule and step 8
  step8-seen : (d : Controller) (to : Moved) → c.gates ≡ gates_of c.set c.phase → d.condition ≡ None → d.f.v ≡ mean c x → Matches c.set c.phase d.f.v m to → doses_seen c x (step8 d to).next m ≡ amounts_in to.dose
  unfolding doses_seen completes leaves_settle shuts3 w_at step8 clear
  step8-seen d to g k f h = rw (← f, g, k) (sym h.doses)

  step8-shown : (d : Controller) (to : Moved) → c.gates ≡ gates_of c.set c.phase → d.set ≡ c.set → d.counters ≡ c.counters → d.condition ≡ None → d.f.v ≡ mean c x → Matches c.set c.phase d.f.v m to → Shown c x i m (step8 d to)
  unfolding noted begins opens3 w_at step8 Answers
  step8-shown d to g set n k f h =
      let e = step8-seen d to g k f h in
      record {
        agrees = rw (← f, g) h.agrees;
        counters = ap (λ (k : Counters). counters_after k to.dose) n ∙ counts-in c.counters to.dose ∙ sym (ap (counted_in c.counters) e);
        records = tells-of d.set.product c.counters d.counters to.dose _ n e;
        set = set;
        weight = λ h' k'. ap (λ (f' : ℤ). f' -ℤ to.z.v) (sym f);
      }

  mismatched-shown : (a : Answer (Unit {0})) (d : Controller) (next : Result Told) → d.counters ≡ c.counters → d.set ≡ c.set → Shown c x i m next → Shown c x i m (mismatched a d next)
  unfolding mismatched
  mismatched-shown (done u) d next e set h = h
  mismatched-shown (refused n vs) d next e set h = h
  mismatched-shown (fault n vs) d next e set h = faulted-shown (F.F14 _) d e set

module _ (c : Controller) (x : ℤ) (i : ℕ) (m : Noted) (s : Sound c) (a : Agrees c.phase m) where
  kept-mean : (f : ℤ) → f ≡ filtered (push_of c.window x) (filter_of c.set c.gates) → f ≡ mean c x
  unfolding filtered
  kept-mean f e = e ∙ ap (λ (l : List ℤ). mean_of (take (filter_of c.set c.gates) l)) (samples-push c.window x s.places)

  steps4to8-shown : c.condition ≡ None → Shown c x i m (steps4and5 (with_unstarted false (with_inputs i c)) x)
  unfolding steps4and5 steps6to8 step7 seen_of w_of
  steps4to8-shown k =
      mismatched-shown c x i m _ _ _ refl refl
      (step8-shown c x i m _ _ s.gates refl refl k (kept-mean _ refl) (step-matches c.set c.phase m _ refl s.phase a))

  step2-shown : (k : Option Fault) → c.condition ≡ k → Shown c x i m (step2 k c x i)
  unfolding step2 step3 clear
  step2-shown None k = pick_all (Shown c x i m) (outside x) (faulted-shown c x i m F.F21 _ refl refl) (steps4to8-shown k)
  step2-shown (Some why) k = still-shown c x i m (says_fault why) a (says_none c x i m why) (λ h t. false-true (rw k at t))

  tick-shown : Shown c x i m (tick_of c x i)
  unfolding tick_of Answers
  tick-shown =
      pick-if (Shown c x i m) (ltb 15 i)
      (λ above. still-shown c x i m _ a refl (λ h k. omega (arith, ltb-true 15 i above)))
      (λ e. step2-shown c.condition refl)

  -- what the next phase keeps is what was noted, this tick's notes included
  pub tick-agrees : Agrees (tick_of c x i).next.phase (noted c (tick_of c x i).next (w_at c x (tick_of c x i).next) m)
  tick-agrees = tick-shown.agrees

  -- the doses seen are the doses counted
  pub tick-counters : (tick_of c x i).next.counters ≡ counted_in c.counters (doses_seen c x (tick_of c x i).next m)
  tick-counters = tick-shown.counters

  -- the doses seen are the doses told of
  pub tick-records : Answers c.counters (doses_seen c x (tick_of c x i).next m) (tick_of c x i).answer
  tick-records = tick-shown.records

  -- a tick changes no setting
  pub tick-set : (tick_of c x i).next.set ≡ c.set
  tick-set = tick-shown.set

  -- w at the tick is F-Z as the tick leaves them
  pub tick-weight : i ≤ 15 → clear (tick_of c x i).next.condition ≡ true → w_at c x (tick_of c x i).next ≡ (tick_of c x i).next.f.v -ℤ (tick_of c x i).next.z.v
  tick-weight = tick-shown.weight
