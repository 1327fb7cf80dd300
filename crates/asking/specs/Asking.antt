-- What a request asks up to R4, and a reply (document 01, "On the line", R9, R6, R5, R7, R3, R4, R8). Assumes nothing.
use Rattle.std.specs.Prelude.{Bool, ◌&&◌, ◌||◌, List, [], ◌∷◌, ℕ, leb, eqb}
use Rattle.laws.specs.Pick.{pick}
use Rattle.paper.specs.Answer.{Answer, done, refused, told, on_done}
use Rattle.paper.specs.Numbers.{R3, R4, R5, R7}
use Rattle.field.specs.declared.Field.{Field}
use Rattle.frame.specs.Frame.{frame, write_of}
use Rattle.frame.specs.Read.{Finished, read_of}
use Rattle.message.specs.declared.Form.{Form}
use Rattle.message.specs.declared.Form.TheVariants.{Address, Serial}
use Rattle.message.specs.declared.Parts.{Parts}
use Rattle.message.specs.Message.{parts_of, body_of, build_of}
use Rattle.asking.specs.declared.Reply.{Reply}
use Rattle.asking.specs.declared.Reply.TheVariants as R

-- ---- the request

-- a request that is ours: the place of the second closing FF, the address form and the operation code
pub record Asked : Type 0 where
  pub place : ℕ
  pub form : Form
  pub operation : ℕ

abbrev pub asked_by : ℕ → Parts → Asked
asked_by place p = record { place = place; form = p.form; operation = p.operation }

abbrev pub place_and_parts : Finished → ℕ × Parts
place_and_parts f = (f.place, parts_of f.bytes)

-- R9, R6: a finished body answers with the place of the second closing FF
unfoldable pub heard_of : List ℕ → Answer (ℕ × Parts)
heard_of s = told place_and_parts (read_of s)

-- The address or serial is matched with its setting
unfoldable pub ours : Form → ℕ → ℕ → Bool
ours (Address a) address serial = eqb a address
ours (Serial n) address serial = eqb n serial

-- R5: address not ours
unfoldable pub address_of : ℕ → Form → ℕ → ℕ → Answer (Unit {0})
address_of place form address serial = pick (ours form address serial) (done tt) (refused R5 (place ∷ []))

-- C0, C2, C3, C4, C5
unfoldable pub known : ℕ → Bool
known op = eqb op 0xC0 || (leb 0xC2 op && leb op 0xC5)

-- Requests carry no data
unfoldable pub bare : Parts → Bool
bare p = leb p.to p.from

-- R7: other operation code, or data present
unfoldable pub code_of : ℕ → Parts → Answer (Unit {0})
code_of place p = pick (known p.operation && bare p) (done tt) (refused R7 (place ∷ []))

-- R9, R6, R5, R7
unfoldable pub ask_of : ℕ → ℕ → List ℕ → Answer Asked
ask_of address serial s =
    on_done (heard_of s)
    (λ h. on_done (address_of h.0 h.1.form address serial) (λ u. on_done (code_of h.0 h.1) (λ v. done (asked_by h.0 h.1))))

-- R3: C0 when not in Ready
unfoldable pub time_of : ℕ → Bool → Answer (Unit {0})
time_of place in_time = pick in_time (done tt) (refused R3 (place ∷ []))

-- R4: C0 in AL2 or AL3, with no sample, or without -M < F < M
unfoldable pub zero_of : ℕ → Bool → Answer (Unit {0})
zero_of place may = pick may (done tt) (refused R4 (place ∷ []))

-- ---- the reply

-- the weight's three bytes and CON
unfoldable pub field_bytes : Field → List ℕ
field_bytes f = f.low ∷ f.middle ∷ f.high ∷ f.con ∷ []

-- the data of a reply: nothing, one byte, or weight and CON
unfoldable pub reply_bytes : Reply → List ℕ
reply_bytes R.Nothing = []
reply_bytes (R.Byte b) = b ∷ []
reply_bytes (R.Weight f) = field_bytes f

-- A reply repeats the request's address form, and its operation code
unfoldable pub answer_frame : Form → ℕ → List ℕ → List ℕ
answer_frame form operation values = frame (body_of form operation values)

-- a body is built, then framed in a buffer of `room` bytes, or R8
abbrev pub framed_of : Form → ℕ → List ℕ → ℕ → Answer (List ℕ)
framed_of form operation values room = on_done (build_of form operation values) (λ body. write_of body room)

-- the reply in a buffer of `room` bytes: its body is built, then R8
unfoldable pub reply_of : Form → ℕ → Reply → ℕ → Answer (List ℕ)
reply_of form operation holds room = framed_of form operation (reply_bytes holds) room
