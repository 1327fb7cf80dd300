-- Every event keeps what is kept over a series, and so a controller stays sound. Assumes nothing.
use Rattle.std.specs.Prelude.{List, [], ◌∷◌, length}
use Rattle.std.proofs.Math.Path.{refl}
use Rattle.std.proofs.Common.{ap}
use Rattle.controller.specs.declared.Controller.{Controller}
use Rattle.controller.specs.Tick.{tick_of}
use Rattle.controller.specs.Restart.{restart_of}
use Rattle.setup.specs.Setup.{settings_answer, settings_of, link_of}
use Rattle.controller.specs.Ready.{is_ready}
use Rattle.controller.specs.Sound.{Sound}
use Rattle.controller.specs.Keeps.{tick-sound, request-sound}
use Rattle.setup.specs.Keeps.{link-sound, settings-sound}
use Rattle.controller.specs.Promises.{tick-recordable, request-zero}
use Rattle.setup.specs.Promises.{settings-counters}
use Rattle.controller.specs.Outside.{Noted, Agrees}
use Rattle.panel.specs.Laws.{modbus-sound, modbus-keeps}
use Rattle.controller.specs.OutsideLaws.{tick-agrees, tick-counters, tick-records}
use Rattle.series.specs.Events.{Event, tick, link, request, modbus, settings, reset, restart, event_of, run, sight_of, counting_at, records_at}
use Rattle.series.specs.Kept.{counters_from, Kept, still_kept, told_of, told-recordable, settings-phase, reset-kept, restart-kept, notes-of}

module _ (c : Controller) (m : Noted) (s : Sound c) (a : Agrees c.phase m) where
  pub event-kept : (e : Event) → Kept c (event_of c e) (sight_of c e m) (counting_at c e) (records_at c e)
  unfolding event_of sight_of counting_at records_at link_of settings_of counters_from
  event-kept (tick x i) =
      record {
        sound = tick-sound c x i s;
        agrees = tick-agrees c x i m s a;
        range = (s.count, s.total);
        counters = tick-counters c x i m s a;
        told = told_of c.counters _ (tick_of c x i).answer (tick-records c x i m s a);
        recordable = told-recordable (tick_of c x i).answer (λ t e. tick-recordable c x i t s e);
      }
  event-kept (link on) = still_kept c _ m a (link-sound c on s) refl refl
  event-kept (request b reply) =
      let z = (request-zero c b (length reply)).1 in
      still_kept c _ m a (request-sound c b (length reply) s) (ap (λ (d : Controller). d.phase) z) (ap (λ (d : Controller). d.counters) z)
  event-kept (modbus b reply) =
      let k = modbus-keeps c b (length reply) in
      still_kept c _ m a (modbus-sound c b (length reply) s) k.0 k.1
  event-kept (settings set) =
      still_kept c _ m a (settings-sound c set s) (settings-phase c set (settings_answer c set)) (settings-counters c set)
  event-kept reset = reset-kept c m (is_ready c) refl s a
  event-kept (restart set count total) = restart-kept c m set count total (restart_of set count total) refl s a

-- so the law holds from it too
pub sound-kept : (c : Controller) (e : Event) → Sound c → (m : Noted) × Kept c (event_of c e) (sight_of c e m) (counting_at c e) (records_at c e)
sound-kept c e s = let m = notes-of c.phase in (m.0, event-kept c m.0 s m.1 e)

-- every event keeps a controller sound, and so does any series
pub event-sound : (c : Controller) (e : Event) → Sound c → Sound (event_of c e)
event-sound c e s = (sound-kept c e s).1.sound

pub run_sound : (es : List Event) (c : Controller) → Sound c → Sound (run c es)
unfolding run
run_sound [] c s = s
run_sound (e ∷ es) c s = run_sound es (event_of c e) (event-sound c e s)
