-- What calls make of a fresh box, and what they answer. Assumes nothing.
use Rattle.std.specs.Prelude.{◌≡◌, refl, true, [], ◌∷◌, pos}
use Rattle.laws.specs.Pick.{pick}
use Rattle.laws.specs.Decimal.{good, bad}
use Rattle.controller.specs.State.{restarted, fresh_of}
use Rattle.setup.specs.Setup.{link_of}
use Rattle.series.specs.Events.{request, event_of, run}
use Rattle.calls.specs.Call as calls
use Rattle.calls.specs.Reads.{as_call}
use Rattle.calls.specs.declared.Call.TheVariants.{Tick, Request, Modbus, Unknown}
use Rattle.calls.specs.declared.Order.TheVariants.{Link, Counters}
use Rattle.calls.specs.declared.Use.TheVariants.{ReadFrame, Hour}
use Rattle.acts.specs.Hears.{roomed, heard_in, answered_in}
use Rattle.acts.specs.Acts.{blank, order_events, call_events, events_in, made_by, aside, unread, counted, said_of, said_to}

-- a line that is no call, the counters and a call that needs no box leave the controller; the link start is set; a reply has the room that its request asks for
pub made :
    (made_by fresh_of bad ≡ fresh_of)
    × (made_by fresh_of (good (calls.order Counters) []) ≡ fresh_of)
    × (made_by fresh_of (good (calls.bytes ReadFrame (255 ∷ []) 0) []) ≡ fresh_of)
    × (made_by fresh_of (good (calls.order (Link true)) []) ≡ link_of fresh_of true)
    × (events_in (good (calls.request [] 2) []) ≡ request [] (165 ∷ 165 ∷ []) ∷ [])
unfolding made_by events_in call_events order_events run event_of blank
made = (refl, refl, refl, refl, refl)

-- the counters are answered, a call that needs no box and a line that is no call have no answer here
pub said :
    (said_to fresh_of (good (calls.order Counters) []) ≡ counted (record { count = 0; total = 0 }))
    × (said_to fresh_of bad ≡ unread)
    × (said_to fresh_of (good (calls.bytes Hour [] 5) []) ≡ aside)
unfolding said_to said_of fresh_of restarted
said = (refl, refl, refl)

-- a tick is not heard, nor is a frame with room for 65 bytes of a reply; one that says more bytes than there are has all of them; a line request is heard and not answered
pub heard :
    (heard_in [] (Tick (pos 5) 0) ≡ bad)
    × (heard_in (7 ∷ 8 ∷ []) (Request 1 64) ≡ good (calls.request (7 ∷ []) 64) [])
    × (heard_in (7 ∷ 8 ∷ []) (Request 1 65) ≡ bad)
    × (heard_in (7 ∷ 8 ∷ []) (Modbus 9 0) ≡ good (calls.modbus (7 ∷ 8 ∷ []) 0) [])
    × (heard_in [] (Modbus 0 65) ≡ bad)
    × (heard_in [] Unknown ≡ bad)
    × (answered_in (7 ∷ 8 ∷ []) (Request 1 64) ≡ bad)
unfolding heard_in answered_in roomed as_call pick
heard = (refl, refl, refl, refl, refl, refl, refl)
