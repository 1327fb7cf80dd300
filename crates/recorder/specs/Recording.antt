-- From samples to a journal (the program `record`): what each line of a script adds to it. Assumes nothing.
use Rattle.std.specs.Prelude.{List, [], ◌∷◌, ◌++◌, ℕ}
use Rattle.laws.specs.Decimal.{Parsed, number_at}
use Rattle.paper.specs.Answer.{Answer, done, refused, fault}
use Rattle.controller.specs.declared.Controller.{Controller}
use Rattle.counters.specs.declared.Record.{Record}
use Rattle.controller.specs.Tick.{Told}
use Rattle.controller.specs.State.{fresh_of}
use Rattle.controller.specs.Sound.{Sound}
use Rattle.lines.specs.Lines.{lines_of}
use Rattle.calls.specs.Call.{Call, call_of}
use Rattle.acts.specs.Acts.{Said, ticked, linked, taken, cleared, counted, restarted, explained, framed, aside, unread, said_to, made_by}
use Rattle.clock.specs.Clock.{greatest_hour, Note, note, first_of, heard_by, Runs}
use Rattle.clock.specs.Clock as clock
use Rattle.clock.specs.declared.Heard.{Heard}
use Rattle.clock.specs.declared.Heard.TheVariants.{Ticked, Dosed, Restarted, Lost, Other}
use Rattle.clock.specs.declared.Stage.{Stage}
use Rattle.clock.specs.declared.Clock.{Clock}
use Rattle.clock.specs.declared.Stage.TheVariants.{First, Recording, Over}
use Rattle.recorder.specs.declared.Recorder.{Recorder}

-- ---- what a line was

unfoldable pub heard_doses : List Record → Heard
heard_doses [] = Ticked
heard_doses (r ∷ rs) = Dosed r

-- A tick that is not refused is counted, also in a fault; R1 is not
unfoldable pub heard_tick : Answer Told → Heard
heard_tick (done t) = heard_doses t.doses
heard_tick (refused n vs) = Other
heard_tick (fault n vs) = Ticked

-- a refused restart changes nothing
unfoldable pub heard_restart : Answer (Unit {0}) → Heard
heard_restart (done x) = Restarted
heard_restart (refused n vs) = Other
heard_restart (fault n vs) = Other

unfoldable pub heard_said : Said → Heard
heard_said (ticked a) = heard_tick a
heard_said linked = Other
heard_said (taken a) = Other
heard_said (cleared a) = Other
heard_said (counted n) = Other
heard_said (restarted a) = heard_restart a
heard_said (explained a) = Other
heard_said framed = Other
heard_said aside = Other
-- a line that is no call may have been a tick, a restart or a set
heard_said unread = Lost

unfoldable pub heard_of : Controller → Parsed Call → Heard
heard_of c p = heard_said (said_to c p)

-- ---- a line of the script, its LF left out

-- a box beside a clock
abbrev pub with : Controller → Clock → Recorder
with c k = record { controller = c; clock = k }

-- what it adds
unfoldable pub note_by : Stage → Recorder → List ℕ → Note
note_by First r l = first_of r.clock (number_at greatest_hour l)
note_by Recording r l = heard_by r.clock (heard_of r.controller (call_of l))
note_by Over r l = note r.clock []

unfoldable pub note_of : Recorder → List ℕ → Note
note_of r l = note_by r.clock.stage r l

-- what it makes of the box
unfoldable pub box_by : Stage → Controller → List ℕ → Controller
box_by First c l = c
box_by Recording c l = made_by c (call_of l)
box_by Over c l = c

unfoldable pub next_of : Recorder → List ℕ → Recorder
next_of r l = record { controller = box_by r.clock.stage r.controller l; clock = (note_of r l).next }

-- ---- a whole input

-- The controller is fresh at the start
unfoldable pub start_of : Recorder
start_of = record { controller = fresh_of; clock = clock.start_of }

-- what the lines add, one after another
unfoldable pub notes_of : Recorder → List (List ℕ) → List ℕ
notes_of r [] = []
notes_of r (l ∷ ls) = (note_of r l).text ++ notes_of (next_of r l) ls

-- the journal that `record` writes
unfoldable pub record_of : List ℕ → List ℕ
record_of input = notes_of start_of (lines_of [] input)

-- ---- what every recorder from start or an earlier call satisfies

pub record Carries (r : Recorder) : Type 0 where
  pub sound : Sound r.controller
  pub runs : Runs r.clock
