-- The weights that are compared with a limit, for every sound controller. Assumes nothing.
use Rattle.std.proofs.Common.{sym, ap, ◌∙◌, arith}
use Rattle.std.specs.Prelude.{◌≤◌, nat_abs, ◌+ℤ◌, ◌-ℤ◌}
use Rattle.std.proofs.Math.IntN.{ℤ, -ℤ-+ℤ_cancel}
use Rattle.laws.specs.Whole.{abs-sub}
use Rattle.dosing.specs.Gates.{Kept}
use Rattle.dosing.specs.Laws.{shift}
use Rattle.dosing.specs.declared.Phase.{Phase}
use Rattle.dosing.specs.declared.Phase.TheVariants.{Ready, Coarse, Fine, Hold, Settle, Discharge, Load, Calm, DoseCoarse, DoseFine, DoseSettle}
use Rattle.controller.specs.Tick.{w_of}
use Rattle.controller.specs.Sound.{Sound}
use Rattle.controller.specs.declared.Controller.{Controller}

-- wH-w, where it is compared, is at most 1,800,000 in size
abbrev pub Comparable : Phase → ℤ → Type 0
Comparable Ready w = Unit {0}
Comparable (Coarse w0) w = Unit {0}
Comparable (Fine w0) w = Unit {0}
Comparable Hold w = Unit {0}
Comparable (Settle w0 n) w = Unit {0}
Comparable (Discharge w0 w_s settled) w = Unit {0}
Comparable Load w = Unit {0}
Comparable (Calm n) w = Unit {0}
Comparable (DoseCoarse w_h) w = Unit {0}
Comparable (DoseFine w_h) w = nat_abs (w_h.v -ℤ w) ≤ 1800000
Comparable (DoseSettle w_h n) w = nat_abs (w_h.v -ℤ w) ≤ 1800000

-- w is at most 924,998 in size
pub weight-most : (c : Controller) → Sound c → nat_abs (w_of c) ≤ 924998
unfolding w_of
weight-most c s = omega (arith, abs-sub c.f.v c.z.v, s.previous, s.zero)

-- wH and F were both on the scale
drawn-most : (w_h f z : ℤ) → nat_abs (w_h +ℤ z) ≤ 900000 → nat_abs f ≤ 900000 → nat_abs (w_h -ℤ (f -ℤ z)) ≤ 1800000
drawn-most w_h f z h k =
    omega (arith, ap nat_abs (sym (shift w_h (f -ℤ z) z) ∙ ap (λ (x : ℤ). (w_h +ℤ z) -ℤ x) (-ℤ-+ℤ_cancel f z)), abs-sub (w_h +ℤ z) f)

kept-comparable : (p : Phase) (f z : ℤ) → nat_abs f ≤ 900000 → Kept z p → Comparable p (f -ℤ z)
kept-comparable Ready f z h k = tt
kept-comparable (Coarse w0) f z h k = tt
kept-comparable (Fine w0) f z h k = tt
kept-comparable Hold f z h k = tt
kept-comparable (Settle w0 n) f z h k = tt
kept-comparable (Discharge w0 w_s settled) f z h k = tt
kept-comparable Load f z h k = tt
kept-comparable (Calm n) f z h k = tt
kept-comparable (DoseCoarse w_h) f z h k = tt
kept-comparable (DoseFine w_h) f z h k = drawn-most w_h.v f z k h
kept-comparable (DoseSettle w_h n) f z h k = drawn-most w_h.v f z k.0 h

pub comparable : (c : Controller) → Sound c → Comparable c.phase (w_of c)
unfolding w_of
comparable c s = kept-comparable c.phase c.f.v c.z.v s.previous s.kept
