-- Laws that the proofs of the code cite. Assumes nothing.
use mathlib.Core.Path.{◌≡◌, ap, ◌∙◌}
use mathlib.Core.Bool.{Bool, true, false}
use Prim.Native.Nat.{ℕ, ◌≤◌}
use native.Mathlib.Omega.{arith}
use lib.IntN.{ℤ, nat_abs, ◌-ℤ◌}
use mir.Syntax.{w32}
use mir.Val.{to_z, of_z, SFits}
use mir.Facts.{to_z-of_z}
use borrow.Author.Tests.{eq-eqb, ne_eqb}
use Rattle.std.specs.Prelude.{Option, Some, None}
use Rattle.laws.specs.Pick.{pick, pick-t, pick-f}
use Rattle.laws.specs.Whole.{fits32}
use Rattle.paper.specs.Answer.{done}
use Rattle.settings.specs.declared.Settings.{Settings}
use Rattle.dosing.specs.declared.Gates.{Gates}
use Rattle.dosing.specs.declared.Phase.{Phase}
use Rattle.controller.specs.declared.Controller.{Controller}
use Rattle.controller.specs.declared.Fault.{Fault}
use Rattle.reasons.specs.Reasons.{Cause, is_open, unused, no_start, open_at, fault_cause, fault_or, unused_at, unstarted_at, phase_cause, gate_by, gate_cause, alarm_cause, no_output, why_of}

-- a difference of two weights that an i32 holds
module _ {a b : ℤ} (fa : SFits w32 a) (fb : SFits w32 b) (h : nat_abs (a -ℤ b) ≤ 1800000) where
  same-minus : to_z w32 (of_z w32 a) -ℤ to_z w32 (of_z w32 b) ≡ a -ℤ b
  same-minus = rw (to_z-of_z fa, to_z-of_z fb)

  small-fits : SFits w32 (a -ℤ b)
  small-fits = fits32 (a -ℤ b) (omega arith)

  pub minus-fits : SFits w32 (to_z w32 (of_z w32 a) -ℤ to_z w32 (of_z w32 b))
  minus-fits = rw same-minus small-fits

  pub minus_is : to_z w32 (of_z w32 (to_z w32 (of_z w32 a) -ℤ to_z w32 (of_z w32 b))) ≡ a -ℤ b
  minus_is = rw same-minus (to_z-of_z small-fits)

-- ---- the first reason that holds

module _ (set : Settings) (g : Gates) (unstarted : Bool) (p : Phase) (w : ℤ) (output : ℕ) where
  pub by-open : (k : Option Fault) → open_at g output ≡ true → is_open ≡ gate_by set g k unstarted p w output
  unfolding gate_by pick
  by-open k h = rw h

  module _ {k : Option Fault} (shut : open_at g output ≡ false) where
    pub by-fault : {why : Fault} → k ≡ Some why → fault_cause why ≡ gate_by set g k unstarted p w output
    unfolding gate_by fault_or pick
    by-fault e = rw (shut, e)

    module _ (clear : k ≡ None) where
      pub by-unused : unused_at set output ≡ true → unused ≡ gate_by set g k unstarted p w output
      unfolding gate_by fault_or pick
      by-unused a = rw (shut, clear, a)

      module _ (used : unused_at set output ≡ false) where
        pub by-unstarted : unstarted_at set unstarted output ≡ true → no_start ≡ gate_by set g k unstarted p w output
        unfolding gate_by fault_or pick
        by-unstarted b = rw (shut, clear, used, b)

        pub by-phase : unstarted_at set unstarted output ≡ false → phase_cause set p w output ≡ gate_by set g k unstarted p w output
        unfolding gate_by fault_or pick
        by-phase b = rw (shut, clear, used, b)

-- ---- which output is asked for

module _ (c : Controller) (k : ℕ) (one : no_output k ≡ false) where
  pub at-alarm : k ≡ 4 → why_of c k ≡ done (alarm_cause c.condition c.alarm)
  unfolding why_of
  at-alarm e = pick-f _ _ _ one ∙ ap (λ (x : Cause). done x) (pick-t _ _ _ (eq-eqb k 4 e))

  pub at-gate : (k ≡ 4 → ⊥) → why_of c k ≡ done (gate_cause c k)
  unfolding why_of
  at-gate n = pick-f _ _ _ one ∙ ap (λ (x : Cause). done x) (pick-f _ _ _ (ne_eqb k 4 n))
