-- What a tick that began and ended in Ready with start off tells, and that start on does not leave it there. Assumes nothing.
use Rattle.std.specs.Prelude.{◌≡◌, refl, Bool, ◌&&◌, ℕ, leb, ℤ, pos, ◌-ℤ◌, Option, None}
use Rattle.std.proofs.Common.{sym, ◌∙◌, arith, leb-true}
use Rattle.std.proofs.Math.Bool.{true, false, not}
use Rattle.std.specs.Int.Signed.{lt_z}
use Rattle.laws.specs.Pick.{pick-if}
use Rattle.laws.specs.Whole.{false-true, true-false}
use Rattle.laws.specs.Bools.{and_left, and_right}
use Rattle.settings.specs.declared.Settings.{Settings}
use Rattle.dosing.specs.Rules.{step_of, ready, ready_to_fill, ready_to_dose, waits}
use Rattle.dosing.specs.declared.Phase.{Phase}
use Rattle.dosing.specs.declared.Phase.TheVariants.{Ready}
use Rattle.dosing.specs.declared.Seen.{Seen}
use Rattle.dosing.specs.declared.Moved.{Moved}
use Rattle.stepping.specs.Stepping.{at_ready, unstarted_of}
use Rattle.controller.specs.Sound.{Waited}
use Rattle.controller.specs.Bounds.{at_ready_lem}
use Rattle.controller.specs.declared.Fault.{Fault}

-- a set of AL0 or AL1 is no set of AL2; nor is one of AL3
low-two : {Q : Type 0} (al : ℕ) → leb al 1 ≡ true → al ≡ 2 → Q
low-two al h e = absurd (omega (arith, leb-true al 1 h))

high-two : {Q : Type 0} (al : ℕ) → leb 3 al ≡ true → al ≡ 2 → Q
high-two al h e = absurd (omega (arith, leb-true 3 al h))

-- in AL2 w is at least D
abbrev Loaded : Settings → ℤ → Type 0
Loaded set w = set.algorithm ≡ 2 → lt_z w (pos set.dose) ≡ false

-- where Ready stays Ready with start off, Z stays, and in AL2 w is at least D
ready-waits : (set : Settings) (t : Seen) → t.start ≡ false → at_ready (ready set t).phase ≡ true → ((ready set t).z ≡ t.z) × Loaded set t.w.v
unfolding ready ready_to_fill ready_to_dose waits at_ready
ready-waits set t off =
    let P : Moved → Type 0 = λ m. at_ready m.phase ≡ true → (m.z ≡ t.z) × Loaded set t.w.v in
    pick-if P (leb set.algorithm 1)
    (λ low. pick-if P t.start (λ on h. true-false (sym on ∙ off)) (λ o h. (refl, low-two set.algorithm low)))
    (λ high. pick-if P (leb 3 set.algorithm && not t.start)
    (λ w h. (refl, high-two set.algorithm (and_left (leb 3 set.algorithm) _ w)))
    (λ w. pick-if P (lt_z t.w.v (pos set.dose)) (λ l h. false-true h)
    (λ l. pick-if P t.start (λ on h. true-false (sym on ∙ off)) (λ o h. (refl, λ e. l)))))

step_waits : (set : Settings) (p : Phase) (t : Seen) → p ≡ Ready → t.start ≡ false → at_ready (step_of set p t).phase ≡ true → ((step_of set p t).z ≡ t.z) × Loaded set t.w.v
unfolding step_of
step_waits set p t e = rw e (ready-waits set t)

off-start : (b : Bool) → not b ≡ true → b ≡ false
off-start true h = sym h
off-start false h = refl

module _ (set : Settings) (p : Phase) (t : Seen) (k : Option Fault) (clear : k ≡ None) (net : t.w.v ≡ t.f.v -ℤ t.z.v) where
  abbrev m : Moved
  m = step_of set p t

  -- before the phase rule and after it
  pub step-waited : (b : Bool) → unstarted_of p t.start m.phase ≡ b → Waited b k p set (t.f.v -ℤ t.z.v) × Waited b k m.phase set (t.f.v -ℤ m.z.v)
  unfolding unstarted_of
  step-waited true h =
      let first = and_left (at_ready p && not t.start) (at_ready m.phase) h in
      let began = at_ready_lem p (and_left (at_ready p) (not t.start) first) in
      let ended = and_right (at_ready p && not t.start) (at_ready m.phase) h in
      let w = step_waits set p t began (off-start t.start (and_right (at_ready p) (not t.start) first)) ended in
      ((clear, began, rw (← net) w.1), (clear, at_ready_lem m.phase ended, rw (w.0, ← net) w.1))
  step-waited false h = (tt, tt)

-- nothing that a zero in AL0 or AL1 could alter
pub low-waited : (b : Bool) (k : Option Fault) (p : Phase) (set : Settings) (w w' : ℤ) → leb set.algorithm 1 ≡ true → Waited b k p set w → Waited b k p set w'
low-waited true k p set w w' low h = (h.0, h.1, low-two set.algorithm low)
low-waited false k p set w w' low h = tt
