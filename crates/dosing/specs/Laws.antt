-- What every step keeps, which the controller and the series rest on: the gates follow the phase, the phase is one of the algorithm's, no filling gate is open with an emptying one or above the capacity, and every weight kept is one of the scale's. Assumes nothing.
use Rattle.std.specs.Prelude.{◌≡◌, Bool, true, ◌&&◌, ◌||◌, ℕ, zero, suc, ◌+◌, ◌*◌, ◌≤◌, ◌<◌, leb, ltb, eqb, ℤ, pos, negsuc, neg_ℤ, nat_abs, ◌+ℤ◌, ◌-ℤ◌, None}
use Rattle.std.proofs.Math.Path.{refl, ap}
use Rattle.std.proofs.Common.{sym, ◌∙◌, arith, leb-true, leb-false, ltb-true, eqb-true, le-leb, eq-eqb}
use Rattle.std.proofs.Math.Bool.{false, and-false}
use Rattle.std.proofs.Math.IntN.{+ℤ_idl, +ℤ_invr, +ℤ_assoc, +ℤ_comm, neg_ℤ-+ℤ, -ℤ-+ℤ_cancel}
use Rattle.std.specs.Int.Signed.{lt_z, le_z}
use Rattle.std.proofs.lemmas.Bool.{eqb-false, lt-leb}
use Rattle.std.proofs.lemmas.Option.{same_Some}
use Rattle.laws.specs.Pick.{pick, pick-t, pick-f, pick_all, pick-if, pick_same}
use Rattle.laws.specs.Bools.{and_left, and_right, or_right}
use Rattle.laws.specs.Whole.{abs-sub, false-true}
use Rattle.settings.specs.declared.Settings.{Settings}
use Rattle.settings.specs.Table.{wf, most_level}
use Rattle.settings.specs.Ranges.{Ranges}
use Rattle.settings.specs.Good.{filling-level}
use Rattle.dosing.specs.Rules.{shut, dosed, complete, reached_wf, not_below_zero, near_zero, zeroed, coarse_stage, dose_coarse, settle_ends, discharge_opens, amount_of, step_of}
use Rattle.dosing.specs.Gates.{filling_open, emptying_open, gates_of, belongs, Scaled, Kept}
use Rattle.dosing.specs.Ways.{on, coarse-ways, fine-ways, fill-ways, hold-ways, settle-ways, discharge-ways, load-ways, calm-ways, dose-coarse-ways, dose-fine-ways, dose-settle-ways, ready-ways}
use Rattle.dosing.specs.declared.Units.{Units}
use Rattle.dosing.specs.declared.Gates.{Gates}
use Rattle.dosing.specs.declared.Phase.{Phase}
use Rattle.dosing.specs.declared.Phase.TheVariants.{Ready, Coarse, Fine, Hold, Settle, Discharge, Load, Calm, DoseCoarse, DoseFine, DoseSettle}
use Rattle.dosing.specs.declared.Seen.{Seen}
use Rattle.dosing.specs.declared.Dose.{Dose}
use Rattle.dosing.specs.declared.Moved.{Moved}

-- the phase determines the outputs, and a dose completes only into Ready

record Tells (set : Settings) (m : Moved) : Type 0 where
  gates : m.gates ≡ gates_of set m.phase
  dose : (a : ℕ) (settled : Bool) → m.dose ≡ dosed a settled → m.phase ≡ Ready

module _ (set : Settings) (t : Seen) where
  on-tells : (p : Phase) → Tells set (on set p t)
  on-tells p = record { gates = refl; dose = λ a settled h. cc }

  opens-tells : (w0 : Units) → Tells set (discharge_opens w0 t)
  unfolding discharge_opens gates_of
  opens-tells w0 = record { gates = refl; dose = λ a settled h. cc }

  complete-tells : (a : ℕ) (settled : Bool) → Tells set (complete a settled t)
  unfolding gates_of
  complete-tells a settled = record { gates = refl; dose = λ b s h. refl }

  coarse-tells : (w0 : Units) → Tells set (coarse_stage set w0 t)
  coarse-tells w0 =
      coarse-ways (Tells set) set t w0 (λ e. on-tells Hold) (λ e. on-tells (Settle w0 0)) (λ e. on-tells (Fine w0)) (λ e. on-tells (Coarse w0))

  dose-coarse-tells : (w_h : Units) → Tells set (dose_coarse set w_h t)
  dose-coarse-tells w_h = dose-coarse-ways (Tells set) set t w_h (on-tells (DoseSettle w_h 0)) (on-tells (DoseFine w_h)) (on-tells (DoseCoarse w_h))

step-tells : (set : Settings) (p : Phase) (t : Seen) → Tells set (step_of set p t)
unfolding step_of
step-tells set Ready t =
    ready-ways (Tells set) set t (on-tells set t Ready) (λ low. coarse-tells set (zeroed set t) (zeroed set t).w) (λ high e. on-tells set t Load)
    (λ high. dose-coarse-tells set t t.w)
step-tells set (Coarse w0) t = fill-ways (Tells set) set t _ (on-tells set t Ready) (coarse-tells set t w0)
step-tells set (Fine w0) t =
    fill-ways (Tells set) set t _ (on-tells set t Ready)
    (fine-ways (Tells set) set t w0 (λ e. on-tells set t Hold) (λ e. on-tells set t (Settle w0 0)) (λ e. on-tells set t (Fine w0)))
step-tells set Hold t = hold-ways (Tells set) set t (on-tells set t Hold) (on-tells set t Ready)
step-tells set (Settle w0 n) t = settle-ways (Tells set) set t w0 (n + 1) (opens-tells set t w0) (λ e. on-tells set t (Settle w0 (n + 1)))
step-tells set (Discharge w0 w_s settled) t =
    discharge-ways (Tells set) set t w0 w_s settled (complete-tells set t _ settled) (on-tells set t (Discharge w0 w_s settled))
step-tells set Load t = load-ways (Tells set) set t (on-tells set t (Calm 0)) (λ e. on-tells set t Load)
step-tells set (Calm n) t = calm-ways (Tells set) set t (n + 1) (on-tells set t Ready) (λ e. on-tells set t (Calm (n + 1)))
step-tells set (DoseCoarse w_h) t = dose-coarse-tells set t w_h
step-tells set (DoseFine w_h) t = dose-fine-ways (Tells set) set t w_h (on-tells set t (DoseSettle w_h 0)) (on-tells set t (DoseFine w_h))
step-tells set (DoseSettle w_h n) t =
    dose-settle-ways (Tells set) set t w_h (n + 1) (complete-tells set t _ t.stable) (λ e. on-tells set t (DoseSettle w_h (n + 1)))

-- the phase determines the outputs
pub step-gates : (set : Settings) (p : Phase) (t : Seen) → (step_of set p t).gates ≡ gates_of set (step_of set p t).phase
step-gates set p t = (step-tells set p t).gates

-- a step that completes a dose ends in Ready
pub dose-ready : (set : Settings) (p : Phase) (t : Seen) (a : ℕ) (settled : Bool) → (step_of set p t).dose ≡ dosed a settled → (step_of set p t).phase ≡ Ready
dose-ready set p t = (step-tells set p t).dose

-- outputs 1 to 3 are shut in Ready
pub ready-shut : (set : Settings) → gates_of set Ready ≡ shut
unfolding gates_of
ready-shut set = refl

-- the zero: it changes only from Ready, where Fill begins

zero-ways : (Q : Units → Type 0) (set : Settings) (p : Phase) (t : Seen) → Q t.z → (p ≡ Ready → leb set.algorithm 1 ≡ true → Q (zeroed set t).z) → Q (step_of set p t).z
unfolding step_of discharge_opens
zero-ways Q set Ready t h k =
    let P : Moved → Type 0 = λ m. Q m.z in
    ready-ways P set t h
    (λ low. let q = k refl low in coarse-ways P set (zeroed set t) (zeroed set t).w (λ e. q) (λ e. q) (λ e. q) (λ e. q)) (λ high e. h)
    (λ high. dose-coarse-ways P set t t.w h h h)
zero-ways Q set (Coarse w0) t h k =
    let P : Moved → Type 0 = λ m. Q m.z in
    fill-ways P set t _ h (coarse-ways P set t w0 (λ e. h) (λ e. h) (λ e. h) (λ e. h))
zero-ways Q set (Fine w0) t h k =
    let P : Moved → Type 0 = λ m. Q m.z in
    fill-ways P set t _ h (fine-ways P set t w0 (λ e. h) (λ e. h) (λ e. h))
zero-ways Q set Hold t h k = hold-ways (λ m. Q m.z) set t h h
zero-ways Q set (Settle w0 n) t h k = settle-ways (λ m. Q m.z) set t w0 (n + 1) h (λ e. h)
zero-ways Q set (Discharge w0 w_s settled) t h k = discharge-ways (λ m. Q m.z) set t w0 w_s settled h h
zero-ways Q set Load t h k = load-ways (λ m. Q m.z) set t h (λ e. h)
zero-ways Q set (Calm n) t h k = calm-ways (λ m. Q m.z) set t (n + 1) h (λ e. h)
zero-ways Q set (DoseCoarse w_h) t h k = dose-coarse-ways (λ m. Q m.z) set t w_h h h h
zero-ways Q set (DoseFine w_h) t h k = dose-fine-ways (λ m. Q m.z) set t w_h h h
zero-ways Q set (DoseSettle w_h n) t h k = dose-settle-ways (λ m. Q m.z) set t w_h (n + 1) h (λ e. h)

-- the zero changes only from Ready
pub zero-stays : (set : Settings) (p : Phase) (t : Seen) → (p ≡ Ready → ⊥) → (step_of set p t).z ≡ t.z
zero-stays set p t h = zero-ways (λ (z : Units). z ≡ t.z) set p t refl (λ e low. absurd (h e))

near-size : (m : ℕ) (f : ℤ) → (lt_z (neg_ℤ (pos m)) f && lt_z f (pos m)) ≡ true → nat_abs f < m
near-size m (pos n) h = ltb-true n m (and_right (lt_z (neg_ℤ (pos m)) (pos n)) (ltb n m) h)
near-size zero (negsuc n) h = false-true h
near-size (suc m) (negsuc n) h = omega (arith, ltb-true n m (and_left (ltb n m) true h))

-- where -M < F < M in AL0 and AL1, F is within 24,998: M is at most C/4
pub near-most : (set : Settings) (f : ℤ) → Ranges set → leb set.algorithm 1 ≡ true → near_zero set f ≡ true → nat_abs f ≤ 24998
unfolding near_zero
near-most set f r low h =
    omega (arith, near-size set.level f h, filling-level set r (leb-true set.algorithm 1 low), r.capacity)

zeroed-size : (set : Settings) (t : Seen) → Ranges set → leb set.algorithm 1 ≡ true → nat_abs t.z.v ≤ 24998 → nat_abs (zeroed set t).z.v ≤ 24998
unfolding zeroed
zeroed-size set t r low h =
    pick-if (λ (u : Seen). nat_abs u.z.v ≤ 24998) (near_zero set t.f.v)
    (λ e. near-most set t.f.v r low e) (λ e. h)

-- a zero within 24,998 stays so
pub step-zero : (set : Settings) (p : Phase) (t : Seen) → Ranges set → nat_abs t.z.v ≤ 24998 → nat_abs (step_of set p t).z.v ≤ 24998
step-zero set p t r h = zero-ways (λ (z : Units). nat_abs z.v ≤ 24998) set p t h (λ e low. zeroed-size set t r low h)

-- the phases of the algorithm

-- AL0 and AL1, and not AL2 or AL3
one-low : (al : ℕ) → eqb al 1 ≡ true → leb al 1 ≡ true
one-low al h = le-leb al 1 (omega (arith, eqb-true al 1 h))

two-high : (al : ℕ) → leb 2 al ≡ true → leb al 1 ≡ false
two-high al h = lt-leb al 1 (omega (arith, leb-true 2 al h))

high-two : (al : ℕ) → leb al 1 ≡ false → leb 2 al ≡ true
high-two al h = le-leb 2 al (omega (arith, leb-false al 1 h))

low-one : (al : ℕ) → leb al 1 ≡ true → eqb al 0 ≡ false → eqb al 1 ≡ true
low-one al h e = eq-eqb al 1 (below al (leb-true al 1 h) (eqb-false al 0 e))
  where
    below : (n : ℕ) → n ≤ 1 → (n ≡ 0 → ⊥) → n ≡ 1
    below zero l d = absurd (d refl)
    below (suc n) l d = omega arith

record Stays (set : Settings) (m : Moved) : Type 0 where
  phase : belongs set.algorithm m.phase ≡ true
  dose : set.algorithm ≡ 0 → m.dose ≡ None

module _ (set : Settings) (t : Seen) where
  on-stays : (p : Phase) → belongs set.algorithm p ≡ true → Stays set (on set p t)
  on-stays p h = record { phase = h; dose = λ e. refl }

  ready-stays : Stays set (on set Ready t)
  unfolding belongs
  ready-stays = on-stays Ready refl

  opens-stays : (w0 : Units) → eqb set.algorithm 1 ≡ true → Stays set (discharge_opens w0 t)
  unfolding discharge_opens belongs
  opens-stays w0 h = record { phase = h; dose = λ e. refl }

  -- AL1 to AL3 count
  complete-stays : (a : ℕ) (settled : Bool) → (set.algorithm ≡ 0 → ⊥) → Stays set (complete a settled t)
  unfolding belongs
  complete-stays a settled h = record { phase = refl; dose = λ e. absurd (h e) }

coarse-stays : (set : Settings) (t : Seen) (w0 : Units) → leb set.algorithm 1 ≡ true → Stays set (coarse_stage set w0 t)
unfolding belongs
coarse-stays set t w0 low =
    coarse-ways (Stays set) set t w0 (on-stays set t Hold) (λ e. on-stays set t (Settle w0 0) (low-one set.algorithm low e))
    (λ e. on-stays set t (Fine w0) low) (λ e. on-stays set t (Coarse w0) low)

dose-coarse-stays : (set : Settings) (t : Seen) (w_h : Units) → leb 2 set.algorithm ≡ true → Stays set (dose_coarse set w_h t)
unfolding belongs
dose-coarse-stays set t w_h high =
    dose-coarse-ways (Stays set) set t w_h (on-stays set t (DoseSettle w_h 0) high) (on-stays set t (DoseFine w_h) high) (on-stays set t (DoseCoarse w_h) high)

step_stays : (set : Settings) (p : Phase) (t : Seen) → belongs set.algorithm p ≡ true → Stays set (step_of set p t)
unfolding step_of belongs
step_stays set Ready t h =
    ready-ways (Stays set) set t (ready-stays set t) (coarse-stays set (zeroed set t) (zeroed set t).w)
    (λ high e. on-stays set t Load (high-two set.algorithm high)) (λ high. dose-coarse-stays set t t.w (high-two set.algorithm high))
step_stays set (Coarse w0) t h = fill-ways (Stays set) set t _ (ready-stays set t) (coarse-stays set t w0 h)
step_stays set (Fine w0) t h =
    fill-ways (Stays set) set t _ (ready-stays set t)
    (fine-ways (Stays set) set t w0 (on-stays set t Hold) (λ e. on-stays set t (Settle w0 0) (low-one set.algorithm h e)) (λ e. on-stays set t (Fine w0) h))
step_stays set Hold t h = hold-ways (Stays set) set t (on-stays set t Hold h) (ready-stays set t)
step_stays set (Settle w0 n) t h = settle-ways (Stays set) set t w0 (n + 1) (opens-stays set t w0 h) (λ e. on-stays set t (Settle w0 (n + 1)) h)
step_stays set (Discharge w0 w_s settled) t h =
    discharge-ways (Stays set) set t w0 w_s settled (complete-stays set t _ settled (λ e. omega (arith, eqb-true set.algorithm 1 h)))
    (on-stays set t (Discharge w0 w_s settled) h)
step_stays set Load t h = load-ways (Stays set) set t (on-stays set t (Calm 0) h) (λ e. on-stays set t Load h)
step_stays set (Calm n) t h = calm-ways (Stays set) set t (n + 1) (ready-stays set t) (λ e. on-stays set t (Calm (n + 1)) h)
step_stays set (DoseCoarse w_h) t h = dose-coarse-stays set t w_h h
step_stays set (DoseFine w_h) t h = dose-fine-ways (Stays set) set t w_h (on-stays set t (DoseSettle w_h 0) h) (on-stays set t (DoseFine w_h) h)
step_stays set (DoseSettle w_h n) t h =
    dose-settle-ways (Stays set) set t w_h (n + 1) (complete-stays set t _ t.stable (λ e. omega (arith, leb-true 2 set.algorithm h)))
    (λ e. on-stays set t (DoseSettle w_h (n + 1)) h)

-- the phase stays one of the algorithm's
pub step-belongs : (set : Settings) (p : Phase) (t : Seen) → belongs set.algorithm p ≡ true → belongs set.algorithm (step_of set p t).phase ≡ true
step-belongs set p t h = (step_stays set p t h).phase

-- AL0 counts nothing
pub no-dose : (set : Settings) (p : Phase) (t : Seen) → set.algorithm ≡ 0 → belongs set.algorithm p ≡ true → (step_of set p t).dose ≡ None
no-dose set p t e h = (step_stays set p t h).dose e

-- filling and emptying

module _ (set : Settings) (g : Gates) where
  fill-low : leb set.algorithm 1 ≡ true → filling_open set g ≡ (g.one || g.two)
  unfolding filling_open
  fill-low low = pick-t _ _ _ low

  fill-high : leb set.algorithm 1 ≡ false → filling_open set g ≡ g.three
  unfolding filling_open
  fill-high high = pick-f _ _ _ high

  empty-low : leb set.algorithm 1 ≡ true → g.three ≡ false → emptying_open set g ≡ false
  unfolding emptying_open
  empty-low low e = ap (pick (eqb set.algorithm 0) false) (pick-t _ _ _ low ∙ e) ∙ pick_same _ false

  empty-high : leb set.algorithm 1 ≡ false → (g.one || g.two) ≡ false → emptying_open set g ≡ false
  unfolding emptying_open
  empty-high high e = ap (pick (eqb set.algorithm 0) false) (pick-f _ _ _ high ∙ e) ∙ pick_same _ false

  unfilled : filling_open set g ≡ false → (filling_open set g && emptying_open set g) ≡ false
  unfilled e = ap (λ (b : Bool). b && emptying_open set g) e

  unemptied : emptying_open set g ≡ false → (filling_open set g && emptying_open set g) ≡ false
  unemptied e = ap (λ (b : Bool). filling_open set g && b) e ∙ and-false (filling_open set g)

pub shut-fills : (set : Settings) → filling_open set shut ≡ false
unfolding filling_open
shut-fills set = pick_same _ false

-- filling and emptying gates are never open together
pub never_both : (set : Settings) (p : Phase) → belongs set.algorithm p ≡ true → (filling_open set (gates_of set p) && emptying_open set (gates_of set p)) ≡ false
unfolding gates_of belongs
never_both set Ready h = unfilled set shut (shut-fills set)
never_both set (Coarse w0) h = unemptied set (gates_of set (Coarse w0)) (empty-low set (gates_of set (Coarse w0)) h refl)
never_both set (Fine w0) h = unemptied set _ (empty-low set _ h refl)
never_both set Hold h = unfilled set shut (shut-fills set)
never_both set (Settle w0 n) h = unfilled set shut (shut-fills set)
never_both set (Discharge w0 w_s settled) h = unfilled set _ (fill-low set _ (one-low set.algorithm h))
never_both set Load h = unemptied set _ (empty-high set _ (two-high set.algorithm h) refl)
never_both set (Calm n) h = unfilled set shut (shut-fills set)
never_both set (DoseCoarse w_h) h = unfilled set _ (fill-high set _ (two-high set.algorithm h))
never_both set (DoseFine w_h) h = unfilled set _ (fill-high set _ (two-high set.algorithm h))
never_both set (DoseSettle w_h n) h = unfilled set shut (shut-fills set)

-- no filling gate is open above the capacity

-- the phases that fill
abbrev fills : Phase → Bool
fills Ready = false
fills (Coarse w0) = true
fills (Fine w0) = true
fills Hold = false
fills (Settle w0 n) = false
fills (Discharge w0 w_s settled) = false
fills Load = true
fills (Calm n) = false
fills (DoseCoarse w_h) = false
fills (DoseFine w_h) = false
fills (DoseSettle w_h n) = false

open-fills : (set : Settings) (p : Phase) → belongs set.algorithm p ≡ true → filling_open set (gates_of set p) ≡ true → fills p ≡ true
unfolding gates_of belongs
open-fills set Ready h e = sym (shut-fills set) ∙ e
open-fills set (Coarse w0) h e = refl
open-fills set (Fine w0) h e = refl
open-fills set Hold h e = sym (shut-fills set) ∙ e
open-fills set (Settle w0 n) h e = sym (shut-fills set) ∙ e
open-fills set (Discharge w0 w_s settled) h e = sym (fill-low set _ (one-low set.algorithm h)) ∙ e
open-fills set Load h e = refl
open-fills set (Calm n) h e = sym (shut-fills set) ∙ e
open-fills set (DoseCoarse w_h) h e = sym (fill-high set _ (two-high set.algorithm h)) ∙ e
open-fills set (DoseFine w_h) h e = sym (fill-high set _ (two-high set.algorithm h)) ∙ e
open-fills set (DoseSettle w_h n) h e = sym (shut-fills set) ∙ e

unreached-below : (n m : ℕ) (x : ℤ) → le_z (pos n) x ≡ false → n ≤ m → le_z x (pos m) ≡ true
unreached-below n m (pos k) e h = le-leb k m (omega (arith, leb-false n k e))
unreached-below n m (negsuc k) e h = refl

under-below : (n m : ℕ) (x : ℤ) → lt_z x (pos n) ≡ true → n ≤ m → le_z x (pos m) ≡ true
under-below n m (pos k) e h = le-leb k m (omega (arith, ltb-true k n e))
under-below n m (negsuc k) e h = refl

-- where a phase that fills follows, F-Z is at most C
abbrev Below : Settings → ℤ → Moved → Type 0
Below set f m = fills m.phase ≡ true → le_z (f -ℤ m.z.v) (pos set.capacity) ≡ true

module _ (set : Settings) (t : Seen) (f : ℤ) (r : Ranges set) (net : t.w.v ≡ f -ℤ t.z.v) where
  wf-below : reached_wf set t.w.v ≡ false → le_z (f -ℤ t.z.v) (pos set.capacity) ≡ true
  unfolding reached_wf wf
  wf-below e = rw net at (unreached-below (wf set) set.capacity t.w.v e (omega (arith, r.dose.1)))

  coarse-below : (w0 : Units) → Below set f (coarse_stage set w0 t)
  coarse-below w0 = coarse-ways (Below set f) set t w0 (λ e. false-true) (λ e. false-true) (λ e h. wf-below e) (λ e h. wf-below e)

  -- AL2 and AL3: M is at most C
  load_below : leb set.algorithm 1 ≡ false → le_z (pos set.level) t.w.v ≡ false → le_z (f -ℤ t.z.v) (pos set.capacity) ≡ true
  unfolding most_level
  load_below high e =
      let most : most_level set ≡ set.capacity = pick-f _ _ _ high in
      rw net at (unreached-below set.level set.capacity t.w.v e (omega (arith, r.level.1)))

  low_below : lt_z t.w.v (pos set.dose) ≡ true → le_z (f -ℤ t.z.v) (pos set.capacity) ≡ true
  low_below e = rw net at (under-below set.dose set.capacity t.w.v e r.dose.1)

-- w is F-Z after the zero too
zeroed-net : (set : Settings) (t : Seen) → t.w.v ≡ t.f.v -ℤ t.z.v → (zeroed set t).w.v ≡ t.f.v -ℤ (zeroed set t).z.v
unfolding zeroed
zeroed-net set t net = pick_all (λ (u : Seen). u.w.v ≡ t.f.v -ℤ u.z.v) (near_zero set t.f.v) (sym (+ℤ_invr t.f.v)) net

step-below : (set : Settings) (p : Phase) (t : Seen) → Ranges set → belongs set.algorithm p ≡ true → t.w.v ≡ t.f.v -ℤ t.z.v → Below set t.f.v (step_of set p t)
unfolding step_of belongs discharge_opens
step-below set Ready t r b net =
    let B : Moved → Type 0 = Below set t.f.v in
    ready-ways B set t false-true (λ low. coarse-below set (zeroed set t) t.f.v r (zeroed-net set t net) (zeroed set t).w)
    (λ high e h. low_below set t t.f.v r net e) (λ high. dose-coarse-ways B set t t.w false-true false-true false-true)
step-below set (Coarse w0) t r b net = fill-ways (Below set t.f.v) set t _ false-true (coarse-below set t t.f.v r net w0)
step-below set (Fine w0) t r b net =
    let B : Moved → Type 0 = Below set t.f.v in
    fill-ways B set t _ false-true (fine-ways B set t w0 (λ e. false-true) (λ e. false-true) (λ e h. wf-below set t t.f.v r net e))
step-below set Hold t r b net = hold-ways (Below set t.f.v) set t false-true false-true
step-below set (Settle w0 n) t r b net = settle-ways (Below set t.f.v) set t w0 (n + 1) false-true (λ e. false-true)
step-below set (Discharge w0 w_s settled) t r b net = discharge-ways (Below set t.f.v) set t w0 w_s settled false-true false-true
step-below set Load t r b net =
    load-ways (Below set t.f.v) set t false-true (λ e h. load_below set t t.f.v r net (two-high set.algorithm b) e)
step-below set (Calm n) t r b net = calm-ways (Below set t.f.v) set t (n + 1) false-true (λ e. false-true)
step-below set (DoseCoarse w_h) t r b net = dose-coarse-ways (Below set t.f.v) set t w_h false-true false-true false-true
step-below set (DoseFine w_h) t r b net = dose-fine-ways (Below set t.f.v) set t w_h false-true false-true
step-below set (DoseSettle w_h n) t r b net = dose-settle-ways (Below set t.f.v) set t w_h (n + 1) false-true (λ e. false-true)

-- where a filling gate is open after the step, w is at most C
pub filling-below : (set : Settings) (p : Phase) (t : Seen) → Ranges set → belongs set.algorithm p ≡ true → t.w.v ≡ t.f.v -ℤ t.z.v → filling_open set (step_of set p t).gates ≡ true → le_z (t.f.v -ℤ (step_of set p t).z.v) (pos set.capacity) ≡ true
filling-below set p t r b net e =
    step-below set p t r b net (open-fills set (step_of set p t).phase (step-belongs set p t b) (sym (ap (filling_open set) (step-gates set p t)) ∙ e))

over-not : (c : ℕ) (x : ℤ) → lt_z (pos (c + 9)) x ≡ true → le_z x (pos c) ≡ false
over-not c (pos n) e = lt-leb n c (omega (arith, ltb-true (c + 9) n e))
over-not c (negsuc n) e = false-true e

-- so at w > C+9 no filling gate is open
pub over-unfilled : (set : Settings) (p : Phase) (t : Seen) → Ranges set → belongs set.algorithm p ≡ true → t.w.v ≡ t.f.v -ℤ t.z.v → lt_z (pos (set.capacity + 9)) (t.f.v -ℤ (step_of set p t).z.v) ≡ true → filling_open set (step_of set p t).gates ≡ false
over-unfilled set p t r b net over = decide (filling_open set (step_of set p t).gates) (filling-below set p t r b net)
  where
    decide : (filling : Bool) → (filling ≡ true → le_z (t.f.v -ℤ (step_of set p t).z.v) (pos set.capacity) ≡ true) → filling ≡ false
    decide true h = sym (h refl) ∙ over-not set.capacity (t.f.v -ℤ (step_of set p t).z.v) over
    decide false h = refl

-- what a phase keeps, and the amount

-- where Settle goes on, the tick's number is below 256*p9
pub settle-later : (set : Settings) (n : ℕ) (stable : Bool) → settle_ends set n stable ≡ false → n < 256 * set.p9
unfolding settle_ends
settle-later set n stable h = leb-false (256 * set.p9) n (or_right stable (leb (256 * set.p9) n) h)

-- a difference is that of the weights on the scale
pub shift : (a b z : ℤ) → (a +ℤ z) -ℤ (b +ℤ z) ≡ a -ℤ b
shift a b z =
    ap (λ (x : ℤ). (a +ℤ z) +ℤ x) (neg_ℤ-+ℤ b z ∙ +ℤ_comm (neg_ℤ b) (neg_ℤ z))
    ∙ +ℤ_assoc a z (neg_ℤ z +ℤ neg_ℤ b)
    ∙ ap (λ (x : ℤ). a +ℤ x) (sym (+ℤ_assoc z (neg_ℤ z) (neg_ℤ b)) ∙ ap (λ (x : ℤ). x +ℤ neg_ℤ b) (+ℤ_invr z) ∙ +ℤ_idl (neg_ℤ b))

amount-size : (x : ℤ) → not_below_zero x ≤ nat_abs x
unfolding not_below_zero
amount-size (pos n) = omega arith
amount-size (negsuc n) = omega arith

scaled-amount : (z : ℤ) (a b : Units) → Scaled z a → Scaled z b → not_below_zero (a.v -ℤ b.v) ≤ 1800000
scaled-amount z a b h k =
    omega (arith, amount-size (a.v -ℤ b.v), ap nat_abs (shift a.v b.v z), abs-sub (a.v +ℤ z) (b.v +ℤ z))

record Holds (m : Moved) : Type 0 where
  phase : Kept m.z.v m.phase
  dose : (a : ℕ) (settled : Bool) → m.dose ≡ dosed a settled → a ≤ 1800000

nothing-holds : (a : ℕ) (settled : Bool) → None ≡ dosed a settled → a ≤ 1800000
nothing-holds a settled h = let z : ◌≡◌ {A = ℕ} 0 1 = cc in omega arith

complete-same : (n a : ℕ) (b settled : Bool) → n ≤ 1800000 → dosed n b ≡ dosed a settled → a ≤ 1800000
complete-same n a b settled h e = let same : n ≡ a = ap (λ (d : Dose). d.amount) (same_Some _ _ e) in omega arith

module _ (set : Settings) (t : Seen) (r : Ranges set) where
  on-holds : (p : Phase) → Kept t.z.v p → Holds (on set p t)
  on-holds p h = record { phase = h; dose = nothing-holds }

  opens-holds : (w0 : Units) → Scaled t.z.v w0 → Scaled t.z.v t.w → Holds (discharge_opens w0 t)
  unfolding discharge_opens
  opens-holds w0 h k = record { phase = (h, k); dose = nothing-holds }

  complete-holds : (n : ℕ) (settled : Bool) → n ≤ 1800000 → Holds (complete n settled t)
  complete-holds n settled h = record { phase = tt; dose = λ a b. complete-same n a settled b h }

  coarse-holds : (w0 : Units) → Scaled t.z.v w0 → Holds (coarse_stage set w0 t)
  coarse-holds w0 h =
      coarse-ways Holds set t w0 (λ e. on-holds Hold tt) (λ e. on-holds (Settle w0 0) (h, omega arith)) (λ e. on-holds (Fine w0) h)
      (λ e. on-holds (Coarse w0) h)

  dose-coarse-holds : (w_h : Units) → Scaled t.z.v w_h → Holds (dose_coarse set w_h t)
  dose-coarse-holds w_h h = dose-coarse-ways Holds set t w_h (on-holds (DoseSettle w_h 0) (h, omega arith)) (on-holds (DoseFine w_h) h) (on-holds (DoseCoarse w_h) h)

  number-kept : (n : ℕ) → settle_ends set n t.stable ≡ false → n ≤ 16128
  number-kept n e = omega (arith, settle-later set n t.stable e, r.p9.1)

  amount-kept : (w0 w_s : Units) → Scaled t.z.v w0 → Scaled t.z.v w_s → Scaled t.z.v t.w → amount_of set w0 w_s t.w ≤ 1800000
  unfolding amount_of
  amount-kept w0 w_s h k l =
      pick_all (λ (n : ℕ). n ≤ 1800000) (eqb set.p11 0) (scaled-amount t.z.v w_s t.w k l) (scaled-amount t.z.v w_s w0 k h)

-- w was F on the scale
net-scaled : (f : ℤ) (z w : Units) → nat_abs f ≤ 900000 → w.v ≡ f -ℤ z.v → Scaled z.v w
net-scaled f z w h net = rw (net, -ℤ-+ℤ_cancel f z.v) h

step-holds : (set : Settings) (p : Phase) (t : Seen) → Ranges set → nat_abs t.f.v ≤ 900000 → t.w.v ≡ t.f.v -ℤ t.z.v → Kept t.z.v p → Holds (step_of set p t)
unfolding step_of
step-holds set Ready t r s net k =
    let u = zeroed set t in
    ready-ways Holds set t (on-holds set t r Ready tt)
    (λ low. coarse-holds set u r u.w (net-scaled t.f.v u.z u.w s (zeroed-net set t net)))
    (λ high e. on-holds set t r Load tt) (λ high. dose-coarse-holds set t r t.w (net-scaled t.f.v t.z t.w s net))
step-holds set (Coarse w0) t r s net k = fill-ways Holds set t _ (on-holds set t r Ready tt) (coarse-holds set t r w0 k)
step-holds set (Fine w0) t r s net k =
    fill-ways Holds set t _ (on-holds set t r Ready tt)
    (fine-ways Holds set t w0 (λ e. on-holds set t r Hold tt) (λ e. on-holds set t r (Settle w0 0) (k, omega arith)) (λ e. on-holds set t r (Fine w0) k))
step-holds set Hold t r s net k = hold-ways Holds set t (on-holds set t r Hold tt) (on-holds set t r Ready tt)
step-holds set (Settle w0 n) t r s net k =
    settle-ways Holds set t w0 (n + 1) (opens-holds set t r w0 k.0 (net-scaled t.f.v t.z t.w s net))
    (λ e. on-holds set t r (Settle w0 (n + 1)) (k.0, number-kept set t r (n + 1) e))
step-holds set (Discharge w0 w_s settled) t r s net k =
    discharge-ways Holds set t w0 w_s settled
    (complete-holds set t r _ settled (amount-kept set t r w0 w_s k.0 k.1 (net-scaled t.f.v t.z t.w s net)))
    (on-holds set t r (Discharge w0 w_s settled) k)
step-holds set Load t r s net k = load-ways Holds set t (on-holds set t r (Calm 0) (omega arith)) (λ e. on-holds set t r Load tt)
step-holds set (Calm n) t r s net k =
    calm-ways Holds set t (n + 1) (on-holds set t r Ready tt) (λ e. on-holds set t r (Calm (n + 1)) (number-kept set t r (n + 1) e))
step-holds set (DoseCoarse w_h) t r s net k = dose-coarse-holds set t r w_h k
step-holds set (DoseFine w_h) t r s net k =
    dose-fine-ways Holds set t w_h (on-holds set t r (DoseSettle w_h 0) (k, omega arith)) (on-holds set t r (DoseFine w_h) k)
step-holds set (DoseSettle w_h n) t r s net k =
    dose-settle-ways Holds set t w_h (n + 1)
    (complete-holds set t r _ t.stable (scaled-amount t.z.v w_h t.w k.0 (net-scaled t.f.v t.z t.w s net)))
    (λ e. on-holds set t r (DoseSettle w_h (n + 1)) (k.0, number-kept set t r (n + 1) e))

-- what the phase keeps stays bounded
pub step_kept : (set : Settings) (p : Phase) (t : Seen) → Ranges set → nat_abs t.f.v ≤ 900000 → t.w.v ≡ t.f.v -ℤ t.z.v → Kept t.z.v p → Kept (step_of set p t).z.v (step_of set p t).phase
step_kept set p t r s net k = (step-holds set p t r s net k).phase

-- an amount is at most 1,800,000
pub step-amount : (set : Settings) (p : Phase) (t : Seen) → Ranges set → nat_abs t.f.v ≤ 900000 → t.w.v ≡ t.f.v -ℤ t.z.v → Kept t.z.v p → (a : ℕ) (settled : Bool) → (step_of set p t).dose ≡ dosed a settled → a ≤ 1800000
step-amount set p t r s net k = (step-holds set p t r s net k).dose
