-- Every call keeps `Sound`, and only a set that was taken makes a sound controller. Assumes nothing.
use Rattle.std.specs.Prelude.{◌≡◌, refl, Bool, true, false, not, ◌&&◌, ◌||◌, List, [], ℕ, ◌≤◌, leb, ltb, eqb, ℤ, nat_abs, ◌-ℤ◌, Option, Some, None}
use Rattle.std.proofs.Common.{sym, subst, ◌∙◌, ap, rules, ltb-false, arith}
use Rattle.laws.specs.Pick.{pick, pick_all, pick-if}
use Rattle.laws.specs.Whole.{false-true}
use Rattle.laws.specs.Bools.{and_left, and_right, or_left, or_right}
use Rattle.paper.specs.Answer.{Answer, done, refused, fault}
use Rattle.paper.specs.AnswerLaws.{refused-done, on-done, failed}
use Rattle.paper.specs.Numbers.{R3, R4, R15}
use Rattle.settings.specs.Good.{good-ranges}
use Rattle.window.specs.Window.{samples_of, empty_window}
use Rattle.dosing.specs.Rules.{units, step_of}
use Rattle.dosing.specs.Gates.{gates_of, belongs, Kept}
use Rattle.dosing.specs.Laws.{near-most, step-gates, step-belongs, step-zero, step_kept}
use Rattle.dosing.specs.declared.Phase.{Phase}
use Rattle.dosing.specs.declared.Moved.{Moved}
use Rattle.counters.specs.Laws.{after-storable}
use Rattle.scale.specs.Scale.{filtered, none, over_capacity}
use Rattle.scale.specs.Laws.{within-at, empty-within, calm-by-gates-most}
use Rattle.stepping.specs.Stepping.{unstarted_of}
use Rattle.asking.specs.Asking.{Asked, time_of, zero_of, ask_of}
use Rattle.readout.specs.Readout.{zeroable, may_zero}
use Rattle.controller.specs.State.{restarted, fresh_of, with_z, with_unstarted}
use Rattle.controller.specs.Tick.{Result, step8, step7, seen_of, w_of, tick_of}
use Rattle.controller.specs.Ready.{is_ready}
use Rattle.controller.specs.Line.{timely, allowed, asked_of, zeroed_by, replied, replies_to, request_of}
use Rattle.controller.specs.Sound.{Sound, Abandoned, Waited}
use Rattle.controller.specs.Setters.{zero-sound, unstarted-sound}
use Rattle.controller.specs.Ways.{tick-ways}
use Rattle.controller.specs.Waiting.{step-waited, low-waited}
use Rattle.controller.specs.Bounds.{clear-faulted, ready-is}
use Rattle.controller.specs.declared.Controller.{Controller}
use Rattle.controller.specs.declared.Fault.{Fault}
use Rattle.settings.specs.declared.Settings.{Settings}
use Rattle.settings.specs.Table.{first_bad, first_from, table, in_range, default_set, default-good}
use Rattle.window.specs.Laws.{empty-length}
use Rattle.controller.specs.Restart.{stored_bad, restart_of, no_set, no_controller}

-- ---- a tick: step 8

abbrev SoundNext : {X : Type 0} → Result X → Type 0
SoundNext r = Sound r.next

-- what the phase rule makes of a controller
pub record Follows (c : Controller) (m : Moved) : Type 0 where
  pub zero : nat_abs m.z.v ≤ 24998
  pub phase : belongs c.set.algorithm m.phase ≡ true
  pub kept : Kept m.z.v m.phase
  pub gates : m.gates ≡ gates_of c.set m.phase
  pub unstarted : Waited c.unstarted c.condition m.phase c.set (c.f.v -ℤ m.z.v)

abandoned-clear : (k : Option Fault) (p : Phase) (four : Bool) → k ≡ None → Abandoned k p four
abandoned-clear None p four e = tt
abandoned-clear (Some why) p four e = clear-faulted (sym e)

pub step8-sound : (c : Controller) (m : Moved) → Sound c → c.condition ≡ None → Follows c m → Sound (step8 c m).next
unfolding step8
step8-sound c m s e f =
    let n = after-storable c.counters m.dose (record { count = s.count; total = s.total }) in
    let calm = calm-by-gates-most c.gates m.gates c.s s.calm in
    let left = abandoned-clear c.condition m.phase (over_capacity c.set (c.f.v -ℤ m.z.v)) e in
    search rules

-- ---- step 7

-- what the phase rule makes of c, where b tells whether the tick waited for start
pub step_follows : (c : Controller) (start : Bool) → Sound c → (b : Bool) → (let m = step_of c.set c.phase (seen_of c start) in Waited b c.condition m.phase c.set (c.f.v -ℤ m.z.v)) → Follows (with_unstarted b c) (step_of c.set c.phase (seen_of c start))
unfolding seen_of w_of
step_follows c start s b w =
    let r = good-ranges c.set s.set in
    let t = seen_of c start in
    record {
      zero = step-zero c.set c.phase t r s.zero;
      phase = step-belongs c.set c.phase t s.phase;
      kept = step_kept c.set c.phase t r s.previous refl s.kept;
      gates = step-gates c.set c.phase t;
      unstarted = w;
    }

pub step7-sound : (c : Controller) (start : Bool) → Sound c → c.condition ≡ None → Sound (step7 c start).next
unfolding step7 seen_of w_of
step7-sound c start s e =
    let m = step_of c.set c.phase (seen_of c start) in
    let b = unstarted_of c.phase start m.phase in
    let w = step-waited c.set c.phase (seen_of c start) c.condition e refl b refl in
    step8-sound (with_unstarted b c) m (unstarted-sound c s b w.0) e (step_follows c start s b w.1)

-- a tick keeps `Sound`
pub tick-sound : (c : Controller) (x : ℤ) (i : ℕ) → Sound c → Sound (tick_of c x i).next
tick-sound c x i s =
    tick-ways SoundNext (λ why d t. t) c x i s (λ a. s) (λ why e. s) (λ d start r. step7-sound d start r.sound r.clear)

-- ---- restart

pub empty-held : empty_window.held ≤ 128
unfolding empty_window
empty-held = omega arith

pub restarted-sound : (set : Settings) (count total : ℕ) → first_bad set ≡ done tt → count ≤ 999999 → total ≤ 999999999 → Sound (restarted set count total)
unfolding restarted gates_of belongs
restarted-sound set count total g a b =
    let places = empty-length in
    let held = empty-held in
    let samples = within-at 900000 (samples_of empty_window) empty-within in
    search rules

pub fresh-sound : Sound fresh_of
unfolding fresh_of
fresh-sound = restarted-sound default_set 0 0 default-good (omega arith) (omega arith)

pub restart-sound : (set : Settings) (count total : ℕ) (c : Controller) → restart_of set count total ≡ done c → Sound c
unfolding restart_of stored_bad
restart-sound set count total c e =
    on-done (first_bad set) _ c e
    (λ u good k.
    let p = failed (stored_bad count total) _ R15 [] c k in
    let a : count ≤ 999999 = ltb-false 999999 count (or_left (ltb 999999 count) _ p.0) in
    let b : total ≤ 999999999 = ltb-false 999999999 total (or_right (ltb 999999 count) _ p.0) in
    subst Sound p.1 (restarted-sound set _ _ good (omega arith) (omega arith)))

-- what stands in the place of a refused restart's controller is of a set that is not good
pub no-controller : Sound no_controller → ⊥
unfolding no_controller restarted no_set first_bad first_from table in_range pick
no-controller s = refused-done s.set

-- ---- a line request

-- what passed a stage of C0 passed its test
passed-zero : (zeroes test : Bool) (n : ℕ) (vs : List ℕ) (u : Unit {0}) → pick (not zeroes || test) (done tt) (refused n vs) ≡ done u → zeroes ≡ true → test ≡ true
unfolding pick
passed-zero true true n vs u e h = refl
passed-zero true false n vs u e h = refused-done e
passed-zero false test n vs u e h = false-true h

-- C0 is done only in Ready, and where the zero can be taken
allowed-zero : (c : Controller) (a b : Asked) → allowed c a ≡ done b → eqb b.operation 0xC0 ≡ true → (is_ready c ≡ true) × (zeroable c.set c.window ≡ true)
unfolding allowed time_of timely zero_of may_zero
allowed-zero c a b e h =
    on-done (time_of a.place (timely a.operation (is_ready c))) _ b e
    (λ u timed k. on-done (zero_of a.place (may_zero a.operation c.set c.window)) _ b k
    (λ v zeroed l.
    let same : a ≡ b = cc in
    let zeroes : eqb a.operation 0xC0 ≡ true = ap (λ (x : Asked). eqb x.operation 0xC0) same ∙ h in
    (passed-zero _ (is_ready c) R3 _ u timed zeroes, passed-zero _ (zeroable c.set c.window) R4 _ v zeroed zeroes)))

pub asked-zero : (c : Controller) (bytes : List ℕ) (a : Asked) → asked_of c bytes ≡ done a → eqb a.operation 0xC0 ≡ true → (is_ready c ≡ true) × (zeroable c.set c.window ≡ true)
unfolding asked_of
asked-zero c bytes a e h = on-done (ask_of c.set.address c.set.serial bytes) _ a e (λ b e' k. allowed-zero c b a k h)

zeroed-sound : (c : Controller) → Sound c → is_ready c ≡ true → zeroable c.set c.window ≡ true → Sound (with_z (units (filtered c.window c.set.p8)) c)
unfolding zeroable
zeroed-sound c s e h =
    let f = filtered c.window c.set.p8 in
    let al = leb c.set.algorithm 1 in
    let held = not (none (samples_of c.window)) in
    let low = and_left al held (and_left (al && held) _ h) in
    let z = near-most c.set f (good-ranges c.set s.set) low (and_right (al && held) _ h) in
    let waited = low-waited c.unstarted c.condition c.phase c.set _ (c.f.v -ℤ f) low s.unstarted in
    zero-sound c s (units f) z (rw (ready-is c e).1 tt) waited

replies-sound : (c : Controller) (room : ℕ) (a : Answer Asked) → Sound c
    → ((x : Asked) → a ≡ done x → eqb x.operation 0xC0 ≡ true → (is_ready c ≡ true) × (zeroable c.set c.window ≡ true))
    → Sound (replies_to c room a).next
unfolding replies_to replied zeroed_by
replies-sound c room (done a) s go =
    pick_all SoundNext _
    (pick-if Sound (eqb a.operation 0xC0) (λ h. let p = go a refl h in zeroed-sound c s p.0 p.1) (λ h. s))
    s
replies-sound c room (refused n vs) s go = s
replies-sound c room (fault n vs) s go = s

pub request-sound : (c : Controller) (bytes : List ℕ) (room : ℕ) → Sound c → Sound (request_of c bytes room).next
unfolding request_of
request-sound c bytes room s = replies-sound c room (asked_of c bytes) s (asked-zero c bytes)
