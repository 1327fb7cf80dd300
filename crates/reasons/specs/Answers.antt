-- What the answers tell: open exactly if the output is open, fault exactly in a fault, and each value in its range. Assumes nothing.
use Rattle.std.specs.Prelude.{◌≡◌, refl, Bool, true, false, not, ◌&&◌, [], ℕ, ◌≤◌, leb, eqb, ℤ, nat_abs, Option, Some, None}
use Rattle.std.proofs.Common.{sym, ap, subst, ◌∙◌, arith, le-leb, le-ltb, ne_eqb}
use Rattle.laws.specs.Pick.{pick, pick-t, pick-if, pick_all}
use Rattle.laws.specs.Whole.{false-true}
use Rattle.laws.specs.Bools.{and_left}
use Rattle.paper.specs.Numbers.{R19}
use Rattle.paper.specs.Answer.{Answer, done, refused}
use Rattle.paper.specs.AnswerLaws.{refused-done}
use Rattle.settings.specs.declared.Settings.{Settings}
use Rattle.settings.specs.Table.{wc, wf}
use Rattle.settings.specs.Ranges.{Ranges}
use Rattle.settings.specs.Good.{good-ranges}
use Rattle.dosing.specs.Gates.{Kept}
use Rattle.dosing.specs.Rules.{shut}
use Rattle.dosing.specs.declared.Gates.{Gates}
use Rattle.dosing.specs.declared.Phase.{Phase}
use Rattle.dosing.specs.declared.Phase.TheVariants.{Ready, Coarse, Fine, Hold, Settle, Discharge, Load, Calm, DoseCoarse, DoseFine, DoseSettle}
use Rattle.controller.specs.Tick.{w_of}
use Rattle.controller.specs.Sound.{Sound, Named}
use Rattle.controller.specs.Promises.{fault-gates}
use Rattle.controller.specs.declared.Controller.{Controller}
use Rattle.controller.specs.declared.Fault.{Fault}
use Rattle.controller.specs.declared.Fault.TheVariants as F
use Rattle.reasons.specs.Reasons.{Cause, is_open, in_fault, unused, no_start, settling, lead_reached, in_phase, overload, no_alarm, open_at, fault_cause, fault_or, unused_at, unstarted_at, settling_or, lead_or, phase_cause, gate_by, gate_cause, alarm_cause, no_output, why_of}
use Rattle.reasons.specs.Weights.{Comparable, weight-most, comparable}

-- ---- which rule answers for which output

pub gate-why : (c : Controller) (k : ℕ) → 1 ≤ k → k ≤ 3 → why_of c k ≡ done (gate_cause c k)
unfolding why_of no_output pick
gate-why c k a b = rw (le-ltb k 1 (omega arith), le-ltb 4 k (omega arith), ne_eqb k 4 (omega arith)) refl

-- ---- which reason it is

-- the place of a reason in document 02's order
unfoldable pub kind : Cause → ℕ
kind is_open = 0
kind (in_fault number channel) = 1
kind unused = 2
kind no_start = 3
kind (settling gone allowed) = 4
kind (lead_reached w limit) = 5
kind (in_phase name) = 6
kind overload = 7
kind no_alarm = 8

fault-kind : (why : Fault) → kind (fault_cause why) ≡ 1
unfolding fault_cause kind
fault-kind (F.F14 channel) = refl
fault-kind F.F21 = refl

abbrev Late : Cause → Type 0
Late cause = 4 ≤ kind cause

phase-late : (set : Settings) (p : Phase) (w : ℤ) (k : ℕ) → Late (phase_cause set p w k)
unfolding phase_cause settling_or lead_or kind
phase-late set Ready w k = omega arith
phase-late set (Coarse w0) w k = omega arith
phase-late set (Fine w0) w k = pick_all Late (eqb k 1) (omega arith) (omega arith)
phase-late set Hold w k = pick_all Late (leb k 2) (omega arith) (omega arith)
phase-late set (Settle w0 n) w k = pick_all Late (eqb k 3) (omega arith) (pick_all Late (leb k 2) (omega arith) (omega arith))
phase-late set (Discharge w0 w_s settled) w k = omega arith
phase-late set Load w k = omega arith
phase-late set (Calm n) w k = omega arith
phase-late set (DoseCoarse w_h) w k = omega arith
phase-late set (DoseFine w_h) w k = pick_all Late (eqb k 1) (omega arith) (omega arith)
phase-late set (DoseSettle w_h n) w k = pick_all Late (leb k 2) (omega arith) (omega arith)

-- ---- the ways that a reason can come about

fault-ways : (Q : Cause → Type 0) (k : Option Fault) {next : Cause} → ((why : Fault) → k ≡ Some why → Q (fault_cause why)) → (k ≡ None → Q next) → Q (fault_or k next)
unfolding fault_or
fault-ways Q None at go = go refl
fault-ways Q (Some why) at go = at why refl

gate-ways : (Q : Cause → Type 0) (c : Controller) (k : ℕ)
    → (open_at c.gates k ≡ true → Q is_open)
    → ((why : Fault) → c.condition ≡ Some why → open_at c.gates k ≡ false → Q (fault_cause why))
    → (c.condition ≡ None → open_at c.gates k ≡ false → Q unused)
    → (c.condition ≡ None → open_at c.gates k ≡ false → c.unstarted ≡ true → Q no_start)
    → (c.condition ≡ None → open_at c.gates k ≡ false → Q (phase_cause c.set c.phase (w_of c) k))
    → Q (gate_cause c k)
unfolding gate_cause gate_by unstarted_at
gate-ways Q c k opens faults unuses unstarts phases =
    pick-if Q (open_at c.gates k) opens
    (λ o. fault-ways Q c.condition (λ why e. faults why e o)
    (λ e. pick_all Q (unused_at c.set k) (unuses e o)
    (pick-if Q (c.unstarted && not (eqb c.set.algorithm 2 && eqb k 3)) (λ u. unstarts e o (and_left c.unstarted _ u)) (λ u. phases e o))))

-- an answer is a reason of outputs 1 to 3 or of output 4, else R19
why-ways : (Q : Answer Cause → Type 0) (c : Controller) (k : ℕ) → Q (refused R19 []) → Q (done (alarm_cause c.condition c.alarm)) → Q (done (gate_cause c k)) → Q (why_of c k)
unfolding why_of
why-ways Q c k other alarm gate =
    pick_all Q (no_output k) other (pick_all (λ (x : Cause). Q (done x)) (eqb k 4) alarm gate)

alarm-ways : (Q : Cause → Type 0) (c : Controller) → ((why : Fault) → c.condition ≡ Some why → Q (fault_cause why)) → (c.condition ≡ None → Q overload × Q no_alarm) → Q (alarm_cause c.condition c.alarm)
unfolding alarm_cause
alarm-ways Q c faults clear =
    fault-ways Q c.condition faults (λ e. pick_all Q c.alarm (clear e).0 (clear e).1)

-- ---- open

-- it says open exactly if the output is open
pub open-says : (c : Controller) (k : ℕ) → 1 ≤ k → k ≤ 3 → open_at c.gates k ≡ true → why_of c k ≡ done is_open
unfolding gate_cause gate_by
open-says c k a b h = gate-why c k a b ∙ ap (λ (x : Cause). done x) (pick-t _ _ _ h)

pub says-open : (c : Controller) (k : ℕ) → 1 ≤ k → k ≤ 3 → why_of c k ≡ done is_open → open_at c.gates k ≡ true
unfolding kind
says-open c k a b e =
    let g : done (gate_cause c k) ≡ done is_open = sym (gate-why c k a b) ∙ e in
    let h : gate_cause c k ≡ is_open = cc in
    gate-ways (λ (x : Cause). kind x ≡ 0 → open_at c.gates k ≡ true) c k (λ o z. o)
    (λ why f o z. absurd (omega (arith, fault-kind why)))
    (λ f o z. absurd (omega arith))
    (λ f o u z. absurd (omega arith))
    (λ f o z. absurd (omega (arith, phase-late c.set c.phase (w_of c) k)))
    (ap kind h)

-- ---- fault

shut-unopen : (g : Gates) (k : ℕ) → g ≡ shut → open_at g k ≡ false
unfolding open_at
shut-unopen g k e = rw e (pick_all (λ (b : Bool). b ≡ false) (eqb k 1) refl (pick_all (λ (b : Bool). b ≡ false) (eqb k 2) refl refl))

-- it says fault, with number and channel, exactly in a fault
pub fault-says : (c : Controller) (k : ℕ) (why : Fault) → Sound c → 1 ≤ k → k ≤ 4 → c.condition ≡ Some why → why_of c k ≡ done (fault_cause why)
unfolding why_of no_output alarm_cause gate_cause gate_by fault_or pick
fault-says c k why s a b e =
    let g = shut-unopen c.gates k (fault-gates c s why e).0 in
    rw (le-ltb k 1 a, le-ltb 4 k b, g, e) (pick_all (λ (x : Cause). done x ≡ done (fault_cause why)) (eqb k 4) refl refl)

pub says-fault : (c : Controller) (k number channel : ℕ) → why_of c k ≡ done (in_fault number channel) → (why : Fault) × ((c.condition ≡ Some why) × (fault_cause why ≡ in_fault number channel))
unfolding kind
says-fault c k number channel =
    let Q : Cause → Type 0 = λ x. x ≡ in_fault number channel → (why : Fault) × ((c.condition ≡ Some why) × (fault_cause why ≡ in_fault number channel)) in
    let faults : (why : Fault) → c.condition ≡ Some why → Q (fault_cause why) = λ why f h. (why, (f, h)) in
    why-ways (λ (a : Answer Cause). a ≡ done (in_fault number channel) → (why : Fault) × ((c.condition ≡ Some why) × (fault_cause why ≡ in_fault number channel))) c k
    (λ e. refused-done e)
    (λ e. alarm-ways Q c faults (λ f. (λ h. absurd (omega (arith, ap kind h)), λ h. absurd (omega (arith, ap kind h)))) (cc))
    (λ e. gate-ways Q c k (λ o h. absurd (omega (arith, ap kind h))) (λ why f o. faults why f) (λ f o h. absurd (omega (arith, ap kind h)))
    (λ f o u h. absurd (omega (arith, ap kind h)))
    (λ f o h. absurd (omega (arith, ap kind h, phase-late c.set c.phase (w_of c) k))) (cc))

-- ---- no start and settling

-- where it says no start, the last tick began and ended in Ready with start off
pub unstarted-why : (c : Controller) (k : ℕ) → why_of c k ≡ done no_start → c.unstarted ≡ true
unfolding kind
unstarted-why c k =
    let Q : Cause → Type 0 = λ x. kind x ≡ 3 → c.unstarted ≡ true in
    let faults : (why : Fault) → Q (fault_cause why) = λ why z. absurd (omega (arith, fault-kind why)) in
    why-ways (λ (a : Answer Cause). a ≡ done no_start → c.unstarted ≡ true) c k (λ e. refused-done e)
    (λ e. let is : alarm_cause c.condition c.alarm ≡ no_start = cc in
    alarm-ways Q c (λ why f. faults why) (λ f. (λ z. absurd (omega arith), λ z. absurd (omega arith))) (ap kind is))
    (λ e. let is : gate_cause c k ≡ no_start = cc in
    gate-ways Q c k (λ o z. absurd (omega arith)) (λ why f o. faults why) (λ f o z. absurd (omega arith)) (λ f o u z. u)
    (λ f o z. absurd (omega (arith, phase-late c.set c.phase (w_of c) k))) (ap kind is))

-- AL1's Settle from tick 1 on
unfoldable pub settled_on : Phase → Bool
settled_on Ready = false
settled_on (Coarse w0) = false
settled_on (Fine w0) = false
settled_on Hold = false
settled_on (Settle w0 n) = leb 1 n
settled_on (Discharge w0 w_s settled) = false
settled_on Load = false
settled_on (Calm n) = false
settled_on (DoseCoarse w_h) = false
settled_on (DoseFine w_h) = false
settled_on (DoseSettle w_h n) = false

-- settling with a tick gone
unfoldable gone : Cause → Bool
gone is_open = false
gone (in_fault number channel) = false
gone unused = false
gone no_start = false
gone (settling n allowed) = leb 1 n
gone (lead_reached w limit) = false
gone (in_phase name) = false
gone overload = false
gone no_alarm = false

fault-gone : (why : Fault) → gone (fault_cause why) ≡ false
unfolding fault_cause gone
fault-gone (F.F14 channel) = refl
fault-gone F.F21 = refl

phase-gone : (set : Settings) (p : Phase) (w : ℤ) (k : ℕ) → gone (phase_cause set p w k) ≡ true → settled_on p ≡ true
unfolding phase_cause settling_or lead_or gone settled_on
phase-gone set Ready w k h = false-true h
phase-gone set (Coarse w0) w k h = false-true h
phase-gone set (Fine w0) w k h = pick_all (λ (x : Cause). gone x ≡ true → settled_on (Fine w0) ≡ true) (eqb k 1) (λ e. e) (λ e. e) h
phase-gone set Hold w k h = pick_all (λ (x : Cause). gone x ≡ true → settled_on Hold ≡ true) (leb k 2) (λ e. e) (λ e. e) h
phase-gone set (Settle w0 n) w k h =
    pick_all (λ (x : Cause). gone x ≡ true → settled_on (Settle w0 n) ≡ true) (eqb k 3) (λ e. e)
    (pick_all (λ (x : Cause). gone x ≡ true → settled_on (Settle w0 n) ≡ true) (leb k 2) (λ e. false-true e) (λ e. false-true e)) h
phase-gone set (Discharge w0 w_s settled) w k h = false-true h
phase-gone set Load w k h = false-true h
phase-gone set (Calm n) w k h = false-true h
phase-gone set (DoseCoarse w_h) w k h = false-true h
phase-gone set (DoseFine w_h) w k h = pick_all (λ (x : Cause). gone x ≡ true → settled_on (DoseFine w_h) ≡ true) (eqb k 1) (λ e. e) (λ e. e) h
phase-gone set (DoseSettle w_h n) w k h = pick_all (λ (x : Cause). gone x ≡ true → settled_on (DoseSettle w_h n) ≡ true) (leb k 2) (λ e. e) (λ e. e) h

-- where it says settling with a tick gone, it is in AL1's Settle from tick 1 on and in no fault
pub settling-why : (c : Controller) (k n allowed : ℕ) → 1 ≤ n → why_of c k ≡ done (settling n allowed) → (c.condition ≡ None) × (settled_on c.phase ≡ true)
unfolding gone
settling-why c k n allowed l =
    let R : Type 0 = (c.condition ≡ None) × (settled_on c.phase ≡ true) in
    let Q : Cause → Type 0 = λ x. gone x ≡ true → R in
    let faults : (why : Fault) → Q (fault_cause why) = λ why z. false-true (sym (fault-gone why) ∙ z) in
    why-ways (λ (a : Answer Cause). a ≡ done (settling n allowed) → R) c k (λ e. refused-done e)
    (λ e. let is : alarm_cause c.condition c.alarm ≡ settling n allowed = cc in
    alarm-ways Q c (λ why f. faults why) (λ f. (λ z. false-true z, λ z. false-true z)) (ap gone is ∙ le-leb 1 n l))
    (λ e. let is : gate_cause c k ≡ settling n allowed = cc in
    gate-ways Q c k (λ o z. false-true z) (λ why f o. faults why) (λ f o z. false-true z) (λ f o u z. false-true z)
    (λ f o z. (f, phase-gone c.set c.phase (w_of c) k z)) (ap gone is ∙ le-leb 1 n l))

-- ---- ranges

-- the number of a fault has two digits and its channel one; ticks gone and allowed have five each; what is compared has seven and a sign, its limit five
pub InRange : Cause → Type 0
InRange is_open = Unit {0}
InRange (in_fault number channel) = (number ≤ 21) × (channel ≤ 3)
InRange unused = Unit {0}
InRange no_start = Unit {0}
InRange (settling gone allowed) = (gone ≤ 16128) × (allowed ≤ 16128)
InRange (lead_reached w limit) = (nat_abs w ≤ 1800000) × (limit ≤ 99999)
InRange (in_phase name) = Unit {0}
InRange overload = Unit {0}
InRange no_alarm = Unit {0}

fault-range : (why : Fault) (k : Option Fault) → Named k → k ≡ Some why → InRange (fault_cause why)
unfolding fault_cause InRange
fault-range why k n e = named why (rw e at n)
  where
    named : (f : Fault) → Named (Some f) → InRange (fault_cause f)
    named (F.F14 channel) h = (omega arith, omega (arith, h.1))
    named F.F21 h = (omega arith, omega arith)

phase-range : (set : Settings) (p : Phase) (z w : ℤ) (k : ℕ) → Ranges set → Kept z p → nat_abs w ≤ 924998 → Comparable p w → InRange (phase_cause set p w k)
unfolding phase_cause settling_or lead_or InRange wc wf
phase-range set Ready z w k r h b m = tt
phase-range set (Coarse w0) z w k r h b m = tt
phase-range set (Fine w0) z w k r h b m = pick_all InRange (eqb k 1) (omega arith, omega (arith, r.dose.1, r.capacity.1)) tt
phase-range set Hold z w k r h b m = pick_all InRange (leb k 2) (omega arith, omega (arith, r.dose.1, r.capacity.1)) tt
phase-range set (Settle w0 n) z w k r h b m =
    pick_all InRange (eqb k 3) (h.1, omega (arith, r.p9.1)) (pick_all InRange (leb k 2) (omega arith, omega (arith, r.dose.1, r.capacity.1)) tt)
phase-range set (Discharge w0 w_s settled) z w k r h b m = tt
phase-range set Load z w k r h b m = tt
phase-range set (Calm n) z w k r h b m = tt
phase-range set (DoseCoarse w_h) z w k r h b m = tt
phase-range set (DoseFine w_h) z w k r h b m = pick_all InRange (eqb k 1) (m, omega (arith, r.dose.1, r.capacity.1)) tt
phase-range set (DoseSettle w_h n) z w k r h b m = pick_all InRange (leb k 2) (m, omega (arith, r.dose.1, r.capacity.1)) tt

pub why-range : (c : Controller) (k : ℕ) (cause : Cause) → Sound c → why_of c k ≡ done cause → InRange cause
unfolding InRange
why-range c k cause s =
    let faults : (why : Fault) → c.condition ≡ Some why → InRange (fault_cause why) = λ why f. fault-range why c.condition s.named f in
    why-ways (λ (a : Answer Cause). a ≡ done cause → InRange cause) c k (λ e. refused-done e)
    (λ e. let same : alarm_cause c.condition c.alarm ≡ cause = cc in subst InRange same (alarm-ways InRange c faults (λ f. (tt, tt))))
    (λ e. let same : gate_cause c k ≡ cause = cc in
    subst InRange same
    (gate-ways InRange c k (λ o. tt) (λ why f o. faults why f) (λ f o. tt) (λ f o u. tt)
    (λ f o. phase-range c.set c.phase c.z.v (w_of c) k (good-ranges c.set s.set) s.kept (weight-most c s) (comparable c s))))
