-- What document 02 asks to be proved of the reasons, over the rules: what `no start` and `settling` tell of the same tick. Assumes nothing.
use Rattle.std.specs.Prelude.{◌≡◌, refl, Bool, false, ◌&&◌, ℕ, ◌+◌, ◌*◌, ◌≤◌, leb, ℤ, pos, negsuc, ◌-ℤ◌, None}
use Rattle.std.proofs.Math.Path.{sym, subst}
use Rattle.std.proofs.Common.{ap, ◌∙◌, arith, le-leb}
use Rattle.std.proofs.Math.Bool.{true, not}
use Rattle.std.specs.Int.Signed.{lt_z, le_z}
use Rattle.laws.specs.Pick.{pick, pick-if}
use Rattle.laws.specs.Whole.{false-true, true-false}
use Rattle.laws.specs.Bools.{and_left, and_right}
use Rattle.paper.specs.Answer.{done}
use Rattle.settings.specs.declared.Settings.{Settings}
use Rattle.dosing.specs.Rules.{units, step_of, coarse_stage, dose_coarse, ready, ready_to_fill, fill_begins, ready_to_dose, waits, zeroed, settle, settle_ends, discharge_opens}
use Rattle.dosing.specs.Ways.{on, coarse-ways, fine-ways, fill-ways, hold-ways, discharge-ways, load-ways, calm-ways, dose-coarse-ways, dose-fine-ways, dose-settle-ways, ready-ways}
use Rattle.dosing.specs.declared.Units.{Units}
use Rattle.dosing.specs.declared.Phase.{Phase}
use Rattle.dosing.specs.declared.Phase.TheVariants.{Ready, Coarse, Fine, Hold, Settle, Discharge, Load, Calm, DoseCoarse, DoseFine, DoseSettle}
use Rattle.dosing.specs.declared.Seen.{Seen}
use Rattle.dosing.specs.declared.Moved.{Moved}
use Rattle.channels.specs.Channels.{start_of}
use Rattle.window.specs.Window.{samples_of}
use Rattle.scale.specs.Scale.{stable_of, none, calm_by_mean, equal_z}
use Rattle.controller.specs.State.{with_f, with_s}
use Rattle.stepping.specs.Stepping.{at_ready, unstarted_of}
use Rattle.controller.specs.Tick.{Result, Told, seen_of, step7, step8, tick_of}
use Rattle.setup.specs.Setup.{link_of}
use Rattle.controller.specs.Sound.{Sound, Waited}
use Rattle.controller.specs.Bounds.{at_ready_lem}
use Rattle.controller.specs.Keeps.{tick-sound}
use Rattle.controller.specs.declared.Controller.{Controller}
use Rattle.reasons.specs.Reasons.{no_start, settling, why_of}
use Rattle.reasons.specs.Answers.{settled_on, unstarted-why, settling-why}
use Rattle.reasons.specs.Same.{mean_at, calm_at, found, Goes, goes_on, tick_goes, link-goes, with_input4, input-goes, link-starts, input-starts, calm_goes}

-- ---- no start

-- from Ready with start on the phase rule does not end in Ready
ready-leaves : (set : Settings) (t : Seen) → t.start ≡ true → at_ready (ready set t).phase ≡ false
unfolding ready ready_to_fill fill_begins ready_to_dose waits at_ready
ready-leaves set t h =
    let P : Moved → Type 0 = λ m. at_ready m.phase ≡ false in
    pick-if P (leb set.algorithm 1)
    (λ low. pick-if P t.start (λ o. coarse-ways P set (zeroed set t) (zeroed set t).w (λ e. refl) (λ e. refl) (λ e. refl) (λ e. refl)) (λ o. true-false (sym h ∙ o)))
    (λ high. pick-if P (leb 3 set.algorithm && not t.start)
    (λ w. let off = and_right (leb 3 set.algorithm) (not t.start) w in false-true (sym (ap not h) ∙ off))
    (λ w. pick-if P (lt_z t.w.v (pos set.dose)) (λ l. refl)
    (λ l. pick-if P t.start (λ o. dose-coarse-ways P set t t.w refl refl refl) (λ o. true-false (sym h ∙ o)))))

-- the tick ends in no fault and in another phase than Ready
pub record LeavesReady (c : Controller) : Type 0 where
  pub clear : c.condition ≡ None
  pub phase : at_ready c.phase ≡ false

step-leaves : (set : Settings) (p : Phase) (t : Seen) → p ≡ Ready → t.start ≡ true → at_ready (step_of set p t).phase ≡ false
unfolding step_of
step-leaves set p t e = rw e (ready-leaves set t)

-- a tick from Ready with start on that no fault ends
started-leaves : (c : Controller) (x : ℤ) (i : ℕ) → Goes c x i → c.phase ≡ Ready → start_of c.set c.link i ≡ true → LeavesReady (tick_of c x i).next
unfolding step7 step8 found seen_of
started-leaves c x i g p on =
    subst (λ (r : Result Told). LeavesReady r.next) (sym (goes_on c x i g))
    (record { clear = g.clear; phase = step-leaves c.set c.phase _ p on })

-- a tick that began and ended in Ready with start off
module _ (c : Controller) (x : ℤ) (i : ℕ) (s : Sound c) (h : i ≤ 15) where
  abbrev after : Controller
  after = (tick_of c x i).next

  waited-is : (b : Bool) → b ≡ true → Waited b after.condition after.phase after.set (after.f.v -ℤ after.z.v) → after.condition ≡ None
  waited-is true e w = w.0
  waited-is false e w = false-true e

  goes : after.unstarted ≡ true → Goes c x i
  goes u = tick_goes c x i h (waited-is after.unstarted u (tick-sound c x i s).unstarted)

  began : (g : Goes c x i) → after.unstarted ≡ true → c.phase ≡ Ready
  unfolding step7 step8 found unstarted_of
  began g u =
      let v : _ ≡ true = sym (ap (λ (r : Result Told). r.next.unstarted) (goes_on c x i g)) ∙ u in
      at_ready_lem c.phase (and_left (at_ready c.phase) _ (and_left (at_ready c.phase && not (start_of c.set c.link i)) _ v))

  -- where it says no start, the same tick with start on by the link start does not end in Ready
  pub no-start-by-link : (k : ℕ) → why_of after k ≡ done no_start → LeavesReady (tick_of (link_of c true) x i).next
  unfolding link_of
  no-start-by-link k e =
      let u = unstarted-why after k e in
      let g = goes u in
      started-leaves (link_of c true) x i (link-goes c x i g) (began g u) (link-starts c.set i)

  -- nor by input 4 where that counts
  pub no-start-by-input : (k : ℕ) → leb 3 c.set.algorithm ≡ false → why_of after k ≡ done no_start → LeavesReady (tick_of c x (with_input4 i)).next
  no-start-by-input k al e =
      let u = unstarted-why after k e in
      let g = goes u in
      started-leaves c x (with_input4 i) (input-goes c x i h g) (began g u) (input-starts c.set c.link i h al)

-- ---- settling

-- AL1's Settle
unfoldable in_settle : Phase → Bool
in_settle Ready = false
in_settle (Coarse w0) = false
in_settle (Fine w0) = false
in_settle Hold = false
in_settle (Settle w0 n) = true
in_settle (Discharge w0 w_s settled) = false
in_settle Load = false
in_settle (Calm n) = false
in_settle (DoseCoarse w_h) = false
in_settle (DoseFine w_h) = false
in_settle (DoseSettle w_h n) = false

-- Settle is at tick 1 or later only where it was Settle before the tick: the tick that enters is number 0
module _ (set : Settings) (t : Seen) (p : Phase) where
  abbrev Went : Moved → Type 0
  Went m = settled_on m.phase ≡ true → in_settle p ≡ true

  coarse-went : (u : Seen) (w0 : Units) → Went (coarse_stage set w0 u)
  unfolding settled_on
  coarse-went u w0 = coarse-ways Went set u w0 (λ e h. false-true h) (λ e h. false-true h) (λ e h. false-true h) (λ e h. false-true h)

  dose-went : (w_h : Units) → Went (dose_coarse set w_h t)
  unfolding settled_on
  dose-went w_h = dose-coarse-ways Went set t w_h (λ h. false-true h) (λ h. false-true h) (λ h. false-true h)

settle-went : (set : Settings) (p : Phase) (t : Seen) → Went set t p (step_of set p t)
unfolding step_of in_settle settled_on
settle-went set Ready t =
    ready-ways (Went set t Ready) set t (λ h. h) (λ low. coarse-went set t Ready (zeroed set t) (zeroed set t).w) (λ high e h. h) (λ high. dose-went set t Ready t.w)
settle-went set (Coarse w0) t = fill-ways (Went set t (Coarse w0)) set t _ (λ h. h) (coarse-went set t (Coarse w0) t w0)
settle-went set (Fine w0) t =
    fill-ways (Went set t (Fine w0)) set t _ (λ h. h) (fine-ways (Went set t (Fine w0)) set t w0 (λ e h. h) (λ e h. false-true h) (λ e h. h))
settle-went set Hold t = hold-ways (Went set t Hold) set t (λ h. h) (λ h. h)
settle-went set (Settle w0 n) t = λ h. refl
settle-went set (Discharge w0 w_s settled) t = discharge-ways (Went set t (Discharge w0 w_s settled)) set t w0 w_s settled (λ h. h) (λ h. h)
settle-went set Load t = load-ways (Went set t Load) set t (λ h. h) (λ e h. h)
settle-went set (Calm n) t = calm-ways (Went set t (Calm n)) set t (n + 1) (λ h. h) (λ e h. h)
settle-went set (DoseCoarse w_h) t = dose-went set t (DoseCoarse w_h) w_h
settle-went set (DoseFine w_h) t = dose-fine-ways (Went set t (DoseFine w_h)) set t w_h (λ h. h) (λ h. h)
settle-went set (DoseSettle w_h n) t = dose-settle-ways (Went set t (DoseSettle w_h n)) set t w_h (n + 1) (λ h. h) (λ e h. h)

-- a stable tick of Settle opens output 3
stable-opens : (set : Settings) (p : Phase) (t : Seen) → in_settle p ≡ true → t.stable ≡ true → (step_of set p t).gates.three ≡ true
unfolding step_of in_settle settle settle_ends discharge_opens pick
stable-opens set Ready t h e = false-true h
stable-opens set (Coarse w0) t h e = false-true h
stable-opens set (Fine w0) t h e = false-true h
stable-opens set Hold t h e = false-true h
stable-opens set (Settle w0 n) t h e = rw e
stable-opens set (Discharge w0 w_s settled) t h e = false-true h
stable-opens set Load t h e = false-true h
stable-opens set (Calm n) t h e = false-true h
stable-opens set (DoseCoarse w_h) t h e = false-true h
stable-opens set (DoseFine w_h) t h e = false-true h
stable-opens set (DoseSettle w_h n) t h e = false-true h

-- a tick of Settle that no fault ends and that finds S >= 64*p9 after step 5
calm-opens : (c : Controller) (x : ℤ) (i : ℕ) → Goes c x i → in_settle c.phase ≡ true → stable_of c.set (calm_at c x) ≡ true → (tick_of c x i).next.gates.three ≡ true
unfolding step7 step8 found seen_of
calm-opens c x i g p e =
    subst (λ (r : Result Told). r.next.gates.three ≡ true) (sym (goes_on c x i g)) (stable-opens c.set c.phase _ p e)

module _ (c : Controller) (x : ℤ) (i : ℕ) (h : i ≤ 15) where
  settled_before : Goes c x i → settled_on (tick_of c x i).next.phase ≡ true → in_settle c.phase ≡ true
  unfolding step7 step8 found
  settled_before g =
      subst (λ (r : Result Told). settled_on r.next.phase ≡ true → in_settle c.phase ≡ true) (sym (goes_on c x i g)) (settle-went c.set c.phase _)

  -- where it says settling, from tick 1 on, the same tick with S >= 64*p9 after step 5 opens output 3: S after step 5 comes of the previous tick's F and S, which enter the tick nowhere else
  pub settling-opens : (gone allowed : ℕ) → 1 ≤ gone → why_of (tick_of c x i).next 3 ≡ done (settling gone allowed)
      → (f : Units) (s : ℕ) → 64 * c.set.p9 ≤ calm_at (with_s s (with_f f c)) x
      → (tick_of (with_s s (with_f f c)) x i).next.gates.three ≡ true
  unfolding stable_of
  settling-opens gone allowed l e f s m =
      let w = settling-why (tick_of c x i).next 3 gone allowed l e in
      let g = tick_goes c x i h w.0 in
      calm-opens (with_s s (with_f f c)) x i (calm_goes c x i f s g) (settled_before g w.1) (le-leb _ _ m)

le_z-refl : (z : ℤ) → le_z z z ≡ true
le_z-refl (pos n) = le-leb n n (omega arith)
le_z-refl (negsuc n) = le-leb n n (omega arith)

-- there are such: S of 4,032 and the tick's own F as the previous one leave S there, where a sample is held
pub calm-reached : (c : Controller) (x : ℤ) → none (samples_of c.window) ≡ false → calm_at (with_s 4032 (with_f (units (mean_at c x)) c)) x ≡ 4032
unfolding calm_at calm_by_mean equal_z mean_at pick
calm-reached c x h = rw (h, le_z-refl (mean_at c x))
