-- A series of calls, what it makes of a controller, and what is seen of it from outside. Assumes nothing.
use Rattle.std.specs.Prelude.{Bool, true, ◌&&◌, List, [], ◌∷◌, ◌++◌, ℕ, eqb, ℤ, pos, length}
use Rattle.laws.specs.Pick.{pick}
use Rattle.paper.specs.Answer.{Answer, done, refused, fault}
use Rattle.settings.specs.declared.Settings.{Settings}
use Rattle.controller.specs.declared.Controller.{Controller}
use Rattle.counters.specs.declared.Counters.{Counters}
use Rattle.counters.specs.declared.Record.{Record}
use Rattle.counters.specs.Counters.{counters}
use Rattle.controller.specs.Tick.{Told, tick_of}
use Rattle.controller.specs.Restart.{restart_of, restarted_from}
use Rattle.setup.specs.Setup.{settings_of, reset_of, link_of}
use Rattle.controller.specs.Ready.{is_ready}
use Rattle.controller.specs.Line.{request_of}
use Rattle.panel.specs.Modbus.{modbus_of}
use Rattle.controller.specs.Outside.{Noted, noted, w_at, doses_seen}

-- an event for each kind of call: a tick with its sample and inputs, a link start set or cleared, a line request with the bytes offered and the reply buffer,
-- a MODBUS frame and the reply buffer, new settings, a counter reset, a restart with a set and two stored numbers
pub data Event : Type 0 where
  tick : ℤ → ℕ → Event
  link : Bool → Event
  request : List ℕ → List ℕ → Event
  modbus : List ℕ → List ℕ → Event
  settings : Settings → Event
  reset : Event
  restart : Settings → ℕ → ℕ → Event

-- what an event makes of a controller, by the rules that the calls' contracts cite
unfoldable pub event_of : Controller → Event → Controller
event_of c (tick x i) = (tick_of c x i).next
event_of c (link on) = link_of c on
event_of c (request s reply) = (request_of c s (length reply)).next
event_of c (modbus s reply) = (modbus_of c s (length reply)).next
event_of c (settings set) = (settings_of c set).next
event_of c reset = (reset_of c).next
event_of c (restart set count total) = restarted_from c (restart_of set count total)

-- the controller after a series
unfoldable pub run : Controller → List Event → Controller
run c [] = c
run c (e ∷ es) = run (event_of c e) es

-- ---- what is seen from outside

-- what a call shows: w as noted after it, and the amounts of the doses that it completes
pub record Sight : Type 0 where
  pub notes : Noted
  pub doses : List ℕ

-- nothing is noted, and no dose completes
abbrev pub unmoved : Noted → Sight
unmoved m = record { notes = m; doses = [] }

-- only a tick is noted and completes doses
unfoldable pub sight_of : Controller → Event → Noted → Sight
sight_of c (tick x i) m =
    let c' = (tick_of c x i).next in
    record { notes = noted c c' (w_at c x c') m; doses = doses_seen c x c' m }
sight_of c (link on) m = unmoved m
sight_of c (request s reply) m = unmoved m
sight_of c (modbus s reply) m = unmoved m
sight_of c (settings set) m = unmoved m
sight_of c reset m = unmoved m
sight_of c (restart set count total) m = unmoved m

-- from which numbers the doses are counted after a call: from the same, from 0 and 0, or from those that it was given
pub data Counting : Type 0 where
  goes_on : Counting
  cleared : Counting
  given : ℕ → ℕ → Counting

-- a refused restart brings no numbers
unfoldable pub given_by : Answer Controller → ℕ → ℕ → Counting
given_by (done c) count total = given count total
given_by (refused n vs) count total = goes_on
given_by (fault n vs) count total = goes_on

-- an accepted reset puts both to 0, and a restart takes the stored count and total
unfoldable pub counting_at : Controller → Event → Counting
counting_at c (tick x i) = goes_on
counting_at c (link on) = goes_on
counting_at c (request s reply) = goes_on
counting_at c (modbus s reply) = goes_on
counting_at c (settings set) = goes_on
counting_at c reset = pick (is_ready c) cleared goes_on
counting_at c (restart set count total) = given_by (restart_of set count total) count total

-- w as it was noted; the count and total that the last accepted restart was given, 0 and 0 before one and after an accepted reset;
-- the amounts of the doses completed since the last accepted reset, in order: those before that restart, and those after it
pub record Outside : Type 0 where
  pub notes : Noted
  pub stored : Counters
  pub earlier : List ℕ
  pub doses : List ℕ

-- all of them
abbrev pub since_reset : Outside → List ℕ
since_reset o = o.earlier ++ o.doses

-- before any call
abbrev pub no_notes : Noted
no_notes = record { began = pos 0; opened = pos 0 }

unfoldable pub nothing_seen : Outside
nothing_seen = record { notes = no_notes; stored = counters 0 0; earlier = []; doses = [] }

-- a reset forgets every dose, a restart none
unfoldable pub counted_from : Counting → Outside → Outside
counted_from goes_on o = o
counted_from cleared o = record { notes = o.notes; stored = counters 0 0; earlier = []; doses = [] }
counted_from (given count total) o = record { notes = o.notes; stored = counters count total; earlier = since_reset o; doses = [] }

-- what a call shows, put to what was seen: its doses come last
unfoldable pub with_sight : Sight → Outside → Outside
with_sight s o = record { notes = s.notes; stored = o.stored; earlier = o.earlier; doses = o.doses ++ s.doses }

-- what is seen after an event, and after a series
unfoldable pub seen_after : Controller → Event → Outside → Outside
seen_after c e o = with_sight (sight_of c e o.notes) (counted_from (counting_at c e) o)

unfoldable pub seen : Controller → Outside → List Event → Outside
seen c o [] = o
seen c o (e ∷ es) = seen (event_of c e) (seen_after c e o) es

-- ---- restarts that hand back the counters as they were

-- the numbers given are those that the counters' call answers just before
unfoldable pub handed_back : Counting → Counters → Bool
handed_back goes_on n = true
handed_back cleared n = true
handed_back (given count total) n = eqb count n.count && eqb total n.total

-- every accepted restart of a series hands back the counters as they were
unfoldable pub hands_back : Controller → List Event → Bool
hands_back c [] = true
hands_back c (e ∷ es) = handed_back (counting_at c e) c.counters && hands_back (event_of c e) es

-- ---- the dose records that the ticks of a series answer, in order

unfoldable pub records_in : Answer Told → List Record
records_in (done t) = t.doses
records_in (refused n vs) = []
records_in (fault n vs) = []

unfoldable pub records_at : Controller → Event → List Record
records_at c (tick x i) = records_in (tick_of c x i).answer
records_at c (link on) = []
records_at c (request s reply) = []
records_at c (modbus s reply) = []
records_at c (settings set) = []
records_at c reset = []
records_at c (restart set count total) = []

unfoldable pub records : Controller → List Event → List Record
records c [] = []
records c (e ∷ es) = records_at c e ++ records (event_of c e) es
