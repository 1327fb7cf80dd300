-- The samples and F of a sound controller, and what a Ready controller is. Assumes nothing.
use Rattle.std.specs.Prelude.{◌≡◌, refl, true, ℕ, ◌≤◌, ℤ, nat_abs, Option, Some, None}
use Rattle.std.proofs.Common.{arith}
use Rattle.laws.specs.Whole.{false-true}
use Rattle.window.specs.Window.{samples_of, push_of}
use Rattle.window.specs.Range.{Within}
use Rattle.dosing.specs.declared.Phase.{Phase}
use Rattle.dosing.specs.declared.Phase.TheVariants.{Ready, Coarse, Fine, Hold, Settle, Discharge, Load, Calm, DoseCoarse, DoseFine, DoseSettle}
use Rattle.scale.specs.Laws as scale
use Rattle.stepping.specs.Stepping.{at_ready}
use Rattle.controller.specs.Ready.{ready_in, is_ready}
use Rattle.controller.specs.Sound.{Sound}
use Rattle.controller.specs.declared.Controller.{Controller}
use Rattle.controller.specs.declared.Fault.{Fault}

module _ (c : Controller) (s : Sound c) where
  pub samples-within : Within 900000 (samples_of c.window)
  samples-within = scale.at-within 900000 (samples_of c.window) s.samples

  pub push-within : (x : ℤ) → nat_abs x ≤ 900000 → Within 900000 (samples_of (push_of c.window x))
  push-within x h = scale.push-within c.window x s.places samples-within h

-- ---- Ready

pub clear-faulted : {Q : Type 0} {why : Fault} → None ≡ Some why → Q
clear-faulted e = let z : ◌≡◌ {A = ℕ} 0 1 = cc in let n : ⊥ = omega arith in absurd n

-- the phase is Ready
pub at_ready_lem : (p : Phase) → at_ready p ≡ true → p ≡ Ready
unfolding at_ready
at_ready_lem Ready h = refl
at_ready_lem (Coarse w0) h = false-true h
at_ready_lem (Fine w0) h = false-true h
at_ready_lem Hold h = false-true h
at_ready_lem (Settle w0 n) h = false-true h
at_ready_lem (Discharge w0 w_s settled) h = false-true h
at_ready_lem Load h = false-true h
at_ready_lem (Calm n) h = false-true h
at_ready_lem (DoseCoarse w_h) h = false-true h
at_ready_lem (DoseFine w_h) h = false-true h
at_ready_lem (DoseSettle w_h n) h = false-true h

ready-in : (k : Option Fault) (p : Phase) → ready_in k p ≡ true → (k ≡ None) × (p ≡ Ready)
unfolding ready_in
ready-in None p h = (refl, at_ready_lem p h)
ready-in (Some why) p h = false-true h

-- a Ready controller is in no fault, and its phase is Ready
pub ready-is : (c : Controller) → is_ready c ≡ true → (c.condition ≡ None) × (c.phase ≡ Ready)
unfolding is_ready
ready-is c h = ready-in c.condition c.phase h
