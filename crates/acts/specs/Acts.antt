-- What a call makes of the controller in use, and what it answers: over the events of `series`. Assumes nothing.
use Rattle.std.specs.Prelude.{List, [], ◌∷◌, ℕ, replicate}
use Rattle.laws.specs.Decimal.{Parsed, good, bad}
use Rattle.paper.specs.Answer.{Answer, told}
use Rattle.controller.specs.declared.Controller.{Controller}
use Rattle.counters.specs.declared.Counters.{Counters}
use Rattle.controller.specs.Tick.{Told, tick_of}
use Rattle.controller.specs.Restart.{restart_of}
use Rattle.setup.specs.Setup.{settings_of, reset_of}
use Rattle.controller.specs.Says.{no_value}
use Rattle.reasons.specs.Reasons.{Cause, why_of}
use Rattle.series.specs.Events.{Event, tick, link, settings, reset, restart, request, modbus, run}
use Rattle.calls.specs.Call.{Call}
use Rattle.calls.specs.Call as calls
use Rattle.calls.specs.declared.Order.{Order}
use Rattle.calls.specs.declared.Order.TheVariants as O

-- ---- what it makes of the controller

-- a buffer of `room` bytes, each byte A5 before the call
unfoldable pub blank : ℕ → List ℕ
blank room = replicate room 0xA5

-- the events of a series that an order is: one, or none
unfoldable pub order_events : Order → List Event
order_events (O.Link on) = link on ∷ []
order_events (O.Settings set) = settings set ∷ []
order_events O.Reset = reset ∷ []
order_events O.Counters = []
order_events (O.Restart set count total) = restart set count total ∷ []
order_events (O.Why k) = []

-- and that a call is: a writer or reader needs no box
unfoldable pub call_events : Call → List Event
call_events (calls.tick x i) = tick x i ∷ []
call_events (calls.request s room) = request s (blank room) ∷ []
call_events (calls.modbus s room) = modbus s (blank room) ∷ []
call_events (calls.order o) = order_events o
call_events (calls.item i) = []
call_events (calls.bytes u s n) = []

-- a line that is no call is none
unfoldable pub events_in : Parsed Call → List Event
events_in (good call rest) = call_events call
events_in bad = []

-- the controller in use after a line
unfoldable pub made_by : Controller → Parsed Call → Controller
made_by c p = run c (events_in p)

-- ---- what it answers, in the paper's words

-- a frame's reply is not told of here
pub data Said : Type 0 where
  ticked : Answer Told → Said
  linked : Said
  taken : Answer (Unit {0}) → Said
  cleared : Answer (Unit {0}) → Said
  counted : Counters → Said
  restarted : Answer (Unit {0}) → Said
  explained : Answer Cause → Said
  framed : Said
  aside : Said
  unread : Said

unfoldable pub said_of : Controller → Order → Said
said_of c (O.Link on) = linked
said_of c (O.Settings set) = taken (settings_of c set).answer
said_of c O.Reset = cleared (reset_of c).answer
-- A call of its own answers both at any time and changes nothing
said_of c O.Counters = counted c.counters
said_of c (O.Restart set count total) = restarted (told no_value (restart_of set count total))
-- Why is that gate shut? It changes no state
said_of c (O.Why k) = explained (why_of c k)

unfoldable pub said_to : Controller → Parsed Call → Said
said_to c (good (calls.tick x i) rest) = ticked (tick_of c x i).answer
said_to c (good (calls.request s room) rest) = framed
said_to c (good (calls.modbus s room) rest) = framed
said_to c (good (calls.order o) rest) = said_of c o
said_to c (good (calls.item i) rest) = aside
said_to c (good (calls.bytes u s n) rest) = aside
said_to c bad = unread
