-- The ways a rule can go: what each outcome has, the rule has. Assumes nothing.
use Rattle.std.specs.Prelude.{◌≡◌, Bool, true, false, ℕ, leb, eqb, pos, ◌-ℤ◌}
use Rattle.std.specs.Int.Signed.{lt_z, le_z}
use Rattle.laws.specs.Pick.{pick_all, pick-if}
use Rattle.settings.specs.declared.Settings.{Settings}
use Rattle.dosing.specs.Rules.{shut, to, complete, reached_wf, not_below_zero, zeroed, full, coarse_stage, fine_stage, fill_begins, ready_to_fill, fill, hold, settle_ends, discharge_opens, settle, amount_of, discharge, load, calm, dose_coarse, dose_fine, dose_settle, ready_to_dose, ready}
use Rattle.dosing.specs.Gates.{gates_of}
use Rattle.dosing.specs.declared.Units.{Units}
use Rattle.dosing.specs.declared.Phase.{Phase}
use Rattle.dosing.specs.declared.Phase.TheVariants.{Ready, Coarse, Fine, Hold, Settle, Discharge, Load, Calm, DoseCoarse, DoseFine, DoseSettle}
use Rattle.dosing.specs.declared.Seen.{Seen}
use Rattle.dosing.specs.declared.Moved.{Moved}

-- a phase follows, with its outputs and no dose
abbrev pub on : Settings → Phase → Seen → Moved
on set p t = to p (gates_of set p) t

module _ (P : Moved → Type 0) (set : Settings) (t : Seen) where
  full-ways : (w0 : Units) → (eqb set.algorithm 0 ≡ true → P (on set Hold t)) → (eqb set.algorithm 0 ≡ false → P (on set (Settle w0 0) t)) → P (to (full set w0) shut t)
  unfolding full gates_of
  full-ways w0 holds settles = pick-if (λ (p : Phase). P (to p shut t)) (eqb set.algorithm 0) holds settles

  pub coarse-ways : (w0 : Units) → (eqb set.algorithm 0 ≡ true → P (on set Hold t)) → (eqb set.algorithm 0 ≡ false → P (on set (Settle w0 0) t)) → (reached_wf set t.w.v ≡ false → P (on set (Fine w0) t)) → (reached_wf set t.w.v ≡ false → P (on set (Coarse w0) t)) → P (coarse_stage set w0 t)
  unfolding coarse_stage gates_of
  coarse-ways w0 holds settles fine coarse =
      pick-if P _ (λ e. full-ways w0 holds settles) (λ e. pick_all P _ (fine e) (coarse e))

  pub fine-ways : (w0 : Units) → (eqb set.algorithm 0 ≡ true → P (on set Hold t)) → (eqb set.algorithm 0 ≡ false → P (on set (Settle w0 0) t)) → (reached_wf set t.w.v ≡ false → P (on set (Fine w0) t)) → P (fine_stage set w0 t)
  unfolding fine_stage gates_of
  fine-ways w0 holds settles fine = pick-if P _ (λ e. full-ways w0 holds settles) fine

  pub fill-ways : (stage : Moved) → P (on set Ready t) → P stage → P (fill set t stage)
  unfolding fill gates_of
  fill-ways stage stops goes = pick_all P _ stops goes

  pub hold-ways : P (on set Hold t) → P (on set Ready t) → P (hold t)
  unfolding hold gates_of
  hold-ways holds ends = pick_all P _ holds ends

  pub settle-ways : (w0 : Units) (n : ℕ) → P (discharge_opens w0 t) → (settle_ends set n t.stable ≡ false → P (on set (Settle w0 n) t)) → P (settle set w0 n t)
  unfolding settle gates_of
  settle-ways w0 n opens goes = pick-if P _ (λ e. opens) goes

  pub discharge-ways : (w0 w_s : Units) (settled : Bool) → P (complete (amount_of set w0 w_s t.w) settled t) → P (on set (Discharge w0 w_s settled) t) → P (discharge set w0 w_s settled t)
  unfolding discharge gates_of
  discharge-ways w0 w_s settled ends goes = pick_all P _ ends goes

  pub load-ways : P (on set (Calm 0) t) → (le_z (pos set.level) t.w.v ≡ false → P (on set Load t)) → P (load set t)
  unfolding load gates_of
  load-ways ends goes = pick-if P _ (λ e. ends) goes

  pub calm-ways : (n : ℕ) → P (on set Ready t) → (settle_ends set n t.stable ≡ false → P (on set (Calm n) t)) → P (calm set n t)
  unfolding calm gates_of
  calm-ways n ends goes = pick-if P _ (λ e. ends) goes

  pub dose-coarse-ways : (w_h : Units) → P (on set (DoseSettle w_h 0) t) → P (on set (DoseFine w_h) t) → P (on set (DoseCoarse w_h) t) → P (dose_coarse set w_h t)
  unfolding dose_coarse gates_of
  dose-coarse-ways w_h settles fine coarse = pick_all P _ settles (pick_all P _ fine coarse)

  pub dose-fine-ways : (w_h : Units) → P (on set (DoseSettle w_h 0) t) → P (on set (DoseFine w_h) t) → P (dose_fine set w_h t)
  unfolding dose_fine gates_of
  dose-fine-ways w_h settles fine = pick_all P _ settles fine

  pub dose-settle-ways : (w_h : Units) (n : ℕ) → P (complete (not_below_zero (w_h.v -ℤ t.w.v)) t.stable t) → (settle_ends set n t.stable ≡ false → P (on set (DoseSettle w_h n) t)) → P (dose_settle set w_h n t)
  unfolding dose_settle gates_of
  dose-settle-ways w_h n ends goes = pick-if P _ (λ e. ends) goes

  -- Ready: it stays; Fill begins after the zero; Load; Dose begins
  pub ready-ways : P (on set Ready t) → (leb set.algorithm 1 ≡ true → P (coarse_stage set (zeroed set t).w (zeroed set t))) → (leb set.algorithm 1 ≡ false → lt_z t.w.v (pos set.dose) ≡ true → P (on set Load t)) → (leb set.algorithm 1 ≡ false → P (dose_coarse set t.w t)) → P (ready set t)
  unfolding ready ready_to_fill fill_begins ready_to_dose gates_of
  ready-ways stays fills loads doses =
      pick-if P _ (λ low. pick_all P _ (fills low) stays)
      (λ high. pick_all P _ stays (pick-if P _ (loads high) (λ e. pick_all P _ (doses high) stays)))
