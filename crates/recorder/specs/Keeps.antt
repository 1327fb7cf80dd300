-- What every line keeps: a sound controller, doses that can be written, and a clock within its bounds. Assumes nothing.
use Rattle.std.specs.Prelude.{◌≡◌, refl, List, [], ◌∷◌, ℕ}
use Rattle.laws.specs.Decimal.{Parsed, good, bad}
use Rattle.paper.specs.Answer.{Answer, done, refused, fault}
use Rattle.controller.specs.declared.Controller.{Controller}
use Rattle.counters.specs.declared.Record.{Record}
use Rattle.controller.specs.Tick.{Told, tick_of}
use Rattle.controller.specs.Sound.{Sound}
use Rattle.controller.specs.Keeps.{fresh-sound}
use Rattle.counters.specs.Laws.{AllRecordable}
use Rattle.controller.specs.Promises.{tick-recordable}
use Rattle.series.specs.Events.{Event, event_of, run}
use Rattle.series.proofs.Kept.{event-sound}
use Rattle.calls.specs.Call.{Call, tick, request, modbus, order, item, bytes, call_of}
use Rattle.calls.specs.declared.Order.{Order}
use Rattle.calls.specs.declared.Order.TheVariants as O
use Rattle.acts.specs.Acts.{events_in, made_by, said_of, said_to}
use Rattle.clock.specs.Clock.{Runs}
use Rattle.clock.specs.Marking.{fits_line, Writable}
use Rattle.clock.specs.Keeps.{recordable-writable, start-runs, first_runs, heard-runs}
use Rattle.recorder.specs.Recording.{heard_doses, heard_tick, heard_restart, heard_said, heard_of, note_by, note_of, box_by, next_of, start_of, Carries}
use Rattle.clock.specs.declared.Stage.{Stage}
use Rattle.clock.specs.declared.Stage.TheVariants.{First, Recording, Over}
use Rattle.recorder.specs.declared.Recorder.{Recorder}

-- ---- the controller

run_sound : (c : Controller) (es : List Event) → Sound c → Sound (run c es)
unfolding run
run_sound c [] s = s
run_sound c (e ∷ es) s = run_sound (event_of c e) es (event-sound c e s)

pub made-sound : (c : Controller) (p : Parsed Call) → Sound c → Sound (made_by c p)
unfolding made_by
made-sound c p s = run_sound c (events_in p) s

-- every line leaves a sound controller
box-sound : (stage : Stage) (c : Controller) (l : List ℕ) → Sound c → Sound (box_by stage c l)
unfolding box_by
box-sound First c l s = s
box-sound Recording c l s = made-sound c (call_of l) s
box-sound Over c l s = s

-- ---- doses

doses-writable : (rs : List Record) → AllRecordable rs → Writable (heard_doses rs)
unfolding heard_doses fits_line
doses-writable [] h = refl
doses-writable (r ∷ rs) h = recordable-writable r h.0

tick-writable : (a : Answer Told) → ((t : Told) → a ≡ done t → AllRecordable t.doses) → Writable (heard_tick a)
unfolding heard_tick fits_line
tick-writable (done t) h = doses-writable t.doses (h t refl)
tick-writable (refused n vs) h = refl
tick-writable (fault n vs) h = refl

restart-writable : (a : Answer (Unit {0})) → Writable (heard_restart a)
unfolding heard_restart fits_line
restart-writable (done x) = refl
restart-writable (refused n vs) = refl
restart-writable (fault n vs) = refl

order-writable : (c : Controller) (o : Order) → Writable (heard_said (said_of c o))
unfolding heard_said said_of fits_line
order-writable c (O.Link on) = refl
order-writable c (O.Settings set) = refl
order-writable c O.Reset = refl
order-writable c O.Counters = refl
order-writable c (O.Restart set count total) = restart-writable _
order-writable c (O.Why k) = refl

-- the D line of a dose that is heard is never refused
pub heard-writable : (c : Controller) (p : Parsed Call) → Sound c → Writable (heard_of c p)
unfolding heard_of heard_said said_to fits_line
heard-writable c (good (tick x i) rest) s = tick-writable (tick_of c x i).answer (λ t e. tick-recordable c x i t s e)
heard-writable c (good (request b room) rest) s = refl
heard-writable c (good (modbus b room) rest) s = refl
heard-writable c (good (order o) rest) s = order-writable c o
heard-writable c (good (item i) rest) s = refl
heard-writable c (good (bytes u b n) rest) s = refl
heard-writable c bad s = refl

-- ---- the clock

pub start-carries : Carries start_of
unfolding start_of
start-carries = record { sound = fresh-sound; runs = start-runs }

stage-runs : (stage : Stage) (r : Recorder) (l : List ℕ) → Runs r.clock → Runs (note_by stage r l).next
unfolding note_by
stage-runs First r l s = first_runs r.clock l s
stage-runs Recording r l s = heard-runs r.clock (heard_of r.controller (call_of l)) s
stage-runs Over r l s = s

-- every line leaves a recorder within its bounds
pub note-carries : (r : Recorder) (l : List ℕ) → Carries r → Carries (next_of r l)
unfolding next_of note_of
note-carries r l k = record { sound = box-sound r.clock.stage r.controller l k.sound; runs = stage-runs r.clock.stage r l k.runs }
