-- What every event keeps: one record, and one law for each kind of event. That it holds of any event stands in proofs/Kept. Assumes nothing.
use Rattle.std.specs.Prelude.{◌≡◌, Bool, true, false, List, [], ℕ, ◌≤◌, pos}
use Rattle.std.proofs.Math.Path.{refl}
use Rattle.std.proofs.Common.{sym, ap, subst, arith}
use Rattle.laws.specs.Pick.{pick}
use Rattle.paper.specs.Answer.{Answer, done, refused, fault}
use Rattle.paper.specs.AnswerLaws.{on-done, failed}
use Rattle.paper.specs.Numbers.{R15}
use Rattle.settings.specs.declared.Settings.{Settings}
use Rattle.settings.specs.Table.{first_bad}
use Rattle.dosing.specs.declared.Phase.{Phase}
use Rattle.dosing.specs.declared.Phase.TheVariants.{Ready, Coarse, Fine, Hold, Settle, Discharge, Load, Calm, DoseCoarse, DoseFine, DoseSettle}
use Rattle.controller.specs.declared.Controller.{Controller}
use Rattle.counters.specs.declared.Counters.{Counters}
use Rattle.counters.specs.declared.Record.{Record}
use Rattle.counters.specs.Counters.{counters}
use Rattle.controller.specs.State.{restarted}
use Rattle.controller.specs.Tick.{Told}
use Rattle.controller.specs.Restart.{stored_bad, restart_of, restarted_from}
use Rattle.setup.specs.Setup.{taken, after, reset_answer, reset_of}
use Rattle.controller.specs.Ready.{is_ready}
use Rattle.controller.specs.Sound.{Sound}
use Rattle.controller.specs.Keeps.{restart-sound}
use Rattle.setup.specs.Keeps.{reset-sound}
use Rattle.counters.specs.Laws.{AllRecordable, counted_in, Tells}
use Rattle.controller.specs.Promises.{restart-counters}
use Rattle.controller.specs.Outside.{Noted, Agrees}
use Rattle.controller.specs.OutsideLaws.{Answers}
use Rattle.series.specs.Events.{reset, event_of, no_notes, Sight, unmoved, Counting, goes_on, cleared, given, given_by, counting_at, records_in}

-- the numbers from which the doses are counted after a call
unfoldable pub counters_from : Counting → Counters → Counters
counters_from goes_on n = n
counters_from cleared n = counters 0 0
counters_from (given count total) n = counters count total

abbrev pub InRange : Counters → Type 0
InRange n = (n.count ≤ 999999) × (n.total ≤ 999999999)

-- a call from c to d, with what it shows, from which numbers doses are counted after it, and the dose records that it answers:
-- d is sound, what its phase keeps is what was noted, the numbers are in range, the doses seen are those counted and told of, and each record can stand in a D line
pub record Kept (c d : Controller) (s : Sight) (k : Counting) (rs : List Record) : Type 0 where
  pub sound : Sound d
  pub agrees : Agrees d.phase s.notes
  pub range : InRange (counters_from k c.counters)
  pub counters : d.counters ≡ counted_in (counters_from k c.counters) s.doses
  pub told : Tells (counters_from k c.counters) s.doses rs
  pub recordable : AllRecordable rs

-- a call that changes neither phase nor counters
pub still_kept : (c d : Controller) (m : Noted) → Agrees c.phase m → Sound d → d.phase ≡ c.phase → d.counters ≡ c.counters → Kept c d (unmoved m) goes_on []
unfolding counters_from counted_in Tells
still_kept c d m a s p n =
    record { sound = s; agrees = rw p a; range = subst InRange n (s.count, s.total); counters = n; told = tt; recordable = tt }

-- ---- a tick

pub told_of : (n : Counters) (amounts : List ℕ) (a : Answer Told) → Answers n amounts a → Tells n amounts (records_in a)
unfolding Answers Tells records_in
told_of n amounts (done t) h = h
told_of n amounts (refused r vs) h = rw h tt
told_of n amounts (fault r vs) h = rw h tt

pub told-recordable : (a : Answer Told) → ((t : Told) → a ≡ done t → AllRecordable t.doses) → AllRecordable (records_in a)
unfolding records_in
told-recordable (done t) h = h t refl
told-recordable (refused n vs) h = tt
told-recordable (fault n vs) h = tt

-- ---- settings

pub settings-phase : (c : Controller) (set : Settings) (a : Answer (Unit {0})) → (after a (taken set c) c).phase ≡ c.phase
unfolding after taken
settings-phase c set (done u) = refl
settings-phase c set (refused n vs) = refl
settings-phase c set (fault n vs) = refl

-- ---- a counter reset

-- in Ready the counters and the doses are forgotten together, else neither
pub reset-kept : (c : Controller) (m : Noted) (ready : Bool) → is_ready c ≡ ready → Sound c → Agrees c.phase m → Kept c (event_of c reset) (unmoved m) (counting_at c reset) []
unfolding event_of counting_at reset_of reset_answer after pick counters_from counted_in Tells
reset-kept c m true e s a =
    record { sound = reset-sound c s; agrees = rw e a; range = rw e (omega arith, omega arith); counters = rw e refl; told = tt; recordable = tt }
reset-kept c m false e s a = rw e (still_kept c c m a s refl refl)

-- ---- a restart

restart-phase : (set : Settings) (count total : ℕ) (d : Controller) → restart_of set count total ≡ done d → d.phase ≡ Ready
unfolding restart_of restarted
restart-phase set count total d e =
    on-done (first_bad set) _ d e (λ u good h. ap (λ (x : Controller). x.phase) (sym (failed (stored_bad count total) _ R15 [] d h).1))

pub restart-kept : (c : Controller) (m : Noted) (set : Settings) (count total : ℕ) (a : Answer Controller) → restart_of set count total ≡ a → Sound c → Agrees c.phase m → Kept c (restarted_from c a) (unmoved m) (given_by a count total) []
unfolding restarted_from given_by counters_from counted_in Tells Agrees
restart-kept c m set count total (done d) e s a =
    let sound = restart-sound set count total d e in
    let same = restart-counters set count total d e in
    record {
      sound = sound;
      agrees = rw (restart-phase set count total d e) tt;
      range = subst InRange same (sound.count, sound.total);
      counters = same;
      told = tt;
      recordable = tt;
    }
restart-kept c m set count total (refused n vs) e s a = still_kept c c m a s refl refl
restart-kept c m set count total (fault n vs) e s a = still_kept c c m a s refl refl

-- ---- from any sound controller

-- what a phase keeps may have been noted
pub notes-of : (p : Phase) → (m : Noted) × Agrees p m
unfolding Agrees
notes-of Ready = (no_notes, tt)
notes-of (Coarse w0) = (record { began = w0.v; opened = pos 0 }, refl)
notes-of (Fine w0) = (record { began = w0.v; opened = pos 0 }, refl)
notes-of Hold = (no_notes, tt)
notes-of (Settle w0 n) = (record { began = w0.v; opened = pos 0 }, refl)
notes-of (Discharge w0 w_s settled) = (record { began = w0.v; opened = w_s.v }, (refl, refl))
notes-of Load = (no_notes, tt)
notes-of (Calm n) = (no_notes, tt)
notes-of (DoseCoarse w_h) = (record { began = w_h.v; opened = pos 0 }, refl)
notes-of (DoseFine w_h) = (record { began = w_h.v; opened = pos 0 }, refl)
notes-of (DoseSettle w_h n) = (record { began = w_h.v; opened = pos 0 }, refl)
