-- A MODBUS frame (document 02, W2): R17, then what it asks, then R8. Assumes nothing.
use Rattle.std.specs.Prelude.{List, ℕ}
use Rattle.paper.specs.Answer.{Answer, done, refused, fault}
use Rattle.single.specs.Single.{words_of}
use Rattle.registers.specs.Registers.{table_of}
use Rattle.registers.specs.declared.Values.{Values}
use Rattle.modbus.specs.Asks.{Ask, registers, link, exception, Heard, hear_of}
use Rattle.modbus.specs.Replies.{served_of}
use Rattle.channels.specs.Channels.{outputs_of}
use Rattle.controller.specs.Tick.{Result, still}
use Rattle.setup.specs.Setup.{link_of}
use Rattle.controller.specs.Line.{weight_of}
use Rattle.controller.specs.declared.Controller.{Controller}

-- what stands in the registers: the C3 weight by p8 and the C2 weight by p7, as Tenso-M's replies have them, each as an f32; the inputs last kept, the outputs, count and total, the link start
unfoldable pub values_of : Controller → Values
values_of c =
    record {
      c3 = words_of (weight_of c c.set.p8).value;
      c2 = words_of (weight_of c c.set.p7).value;
      inputs = c.inputs;
      outputs = outputs_of c.gates c.alarm;
      count = c.counters.count;
      total = c.counters.total;
      link = c.link;
    }

-- 10 link start, the only one written; no other request changes anything
unfoldable pub linked_by : Controller → Ask → Controller
linked_by c (registers start quantity) = c
linked_by c (link on) = link_of c on
linked_by c (exception function number) = c

-- R8 last: a refused write sets nothing
unfoldable pub served_by : Controller → Ask → Answer (List ℕ) → Result (List ℕ)
served_by c ask (done bytes) = record { next = linked_by c ask; answer = done bytes }
served_by c ask (refused n vs) = still c (refused n vs)
served_by c ask (fault n vs) = still c (fault n vs)

-- R17 first
unfoldable pub serves_to : Controller → ℕ → Answer Heard → Result (List ℕ)
serves_to c room (done h) = served_by c h.ask (served_of c.set.address (table_of (values_of c)) h room)
serves_to c room (refused n vs) = still c (refused n vs)
serves_to c room (fault n vs) = still c (fault n vs)

-- a frame, with a reply buffer of `room` bytes; the MODBUS address is the setting `address`
unfoldable pub modbus_of : Controller → List ℕ → ℕ → Result (List ℕ)
modbus_of c frame room = serves_to c room (hear_of c.set.address frame)
