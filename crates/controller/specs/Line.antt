-- Requests on the line (document 01, "On the line", R9, R6, R5, R7, R3, R4, R8). Assumes nothing.
use Rattle.std.specs.Prelude.{Bool, not, ◌||◌, List, [], ◌∷◌, ℕ, leb, eqb, length}
use Rattle.laws.specs.Pick.{pick}
use Rattle.paper.specs.Answer.{Answer, done, refused, fault, on_done}
use Rattle.paper.specs.Numbers.{R8}
use Rattle.field.specs.declared.Weight.{Weight}
use Rattle.field.specs.Field.{field_of}
use Rattle.dosing.specs.Rules.{units}
use Rattle.channels.specs.Channels.{outputs_of}
use Rattle.scale.specs.Scale.{filtered, weight_by}
use Rattle.asking.specs.Asking.{Asked, ask_of, time_of, zero_of, field_bytes, answer_frame}
use Rattle.readout.specs.Readout.{may_zero}
use Rattle.controller.specs.State.{with_z}
use Rattle.controller.specs.Tick.{Result, still}
use Rattle.controller.specs.Ready.{is_ready}
use Rattle.controller.specs.declared.Controller.{Controller}

-- ---- the request

-- C0 wants Ready; no other request does
unfoldable pub timely : ℕ → Bool → Bool
timely op ready = not (eqb op 0xC0) || ready

-- R3, R4
unfoldable pub allowed : Controller → Asked → Answer Asked
allowed c a =
    on_done (time_of a.place (timely a.operation (is_ready c)))
    (λ u. on_done (zero_of a.place (may_zero a.operation c.set c.window)) (λ v. done a))

-- R9, R6, R5, R7, R3, R4
unfoldable pub asked_of : Controller → List ℕ → Answer Asked
asked_of c s = on_done (ask_of c.set.address c.set.serial s) (λ a. allowed c a)

-- ---- the reply

-- weight and CON of a controller, filtered by n
abbrev pub weight_of : Controller → ℕ → Weight
weight_of c n = weight_by c.set c.window c.z c.s n

-- C3 and C2 answer weight and CON by p8 and p7; C4 the inputs last kept, C5 the outputs; C0 nothing
unfoldable pub reply_data : Controller → ℕ → List ℕ
reply_data c op =
    pick (eqb op 0xC3) (field_bytes (field_of (weight_of c c.set.p8)))
    (pick (eqb op 0xC2) (field_bytes (field_of (weight_of c c.set.p7)))
    (pick (eqb op 0xC4) (c.inputs ∷ [])
    (pick (eqb op 0xC5) (outputs_of c.gates c.alarm ∷ [])
    [])))

unfoldable pub reply_frame : Controller → Asked → List ℕ
reply_frame c a = answer_frame a.form a.operation (reply_data c a.operation)

-- C0 zeroes (Z becomes F, by p8); no other request changes anything
unfoldable pub zeroed_by : Controller → ℕ → Controller
zeroed_by c op = pick (eqb op 0xC0) (with_z (units (filtered c.window c.set.p8)) c) c

pub record Replied : Type 0 where
  pub place : ℕ
  pub bytes : List ℕ

-- R8 last: reply buffer too short
unfoldable pub replied : Controller → Asked → ℕ → Result Replied
replied c a room =
    pick (leb (length (reply_frame c a)) room)
    (record { next = zeroed_by c a.operation; answer = done (record { place = a.place; bytes = reply_frame c a }) })
    (still c (refused R8 (a.place ∷ [])))

unfoldable pub replies_to : Controller → ℕ → Answer Asked → Result Replied
replies_to c room (done a) = replied c a room
replies_to c room (refused n vs) = still c (refused n vs)
replies_to c room (fault n vs) = still c (fault n vs)

-- a line request on the bytes s, with a reply buffer of `room` bytes
unfoldable pub request_of : Controller → List ℕ → ℕ → Result Replied
request_of c s room = replies_to c room (asked_of c s)
