-- Requests up to R7 and replies, run on bytes. Assumes nothing.
use Rattle.std.specs.Prelude.{◌≡◌, refl, List, [], ◌∷◌, ℕ}
use Rattle.laws.specs.Pick.{pick}
use Rattle.paper.specs.Answer.{Answer, done, refused, told, on_done, in_room}
use Rattle.paper.specs.Numbers.{R5, R6, R7, R8, R9, R14}
use Rattle.frame.specs.Check.{check, enter_all, enter, enter_bits, enter_bit, fell_out}
use Rattle.frame.specs.Frame.{frame, sent, sent_byte, extended, framable, fewest, write_of}
use Rattle.frame.specs.Read.{read_of, read_all, run, step, grown, answer_of, judged, bad_body, too_short}
use Rattle.message.specs.Message.{parts_of, form_of, address_length, proper, body_of, address_bytes, framable_of, improper, build_of}
use Rattle.message.specs.declared.Form.{Form}
use Rattle.message.specs.declared.Form.TheVariants.{Address, Serial}
use Rattle.asking.specs.Asking.{Asked, heard_of, ours, address_of, known, bare, code_of, ask_of, field_bytes, reply_bytes, reply_of}
use Rattle.asking.specs.declared.Reply.TheVariants as R

-- the box with address 1 and serial 030201h
abbrev ask : List ℕ → Answer Asked
ask s = ask_of 1 0x030201 s

abbrev asks : ℕ → Form → ℕ → Answer Asked
asks place form operation = done (record { place = place; form = form; operation = operation })

-- C3 to address 1 and to the serial, C0; no frame; a body too short, a bad check; another address, another serial; an operation code on each side of C2..C5, C1; data; R5 before R7
pub cases :
    (ask (0xFF ∷ 0x01 ∷ 0xC3 ∷ 0xE3 ∷ 0xFF ∷ 0xFF ∷ []) ≡ asks 5 (Address 1) 0xC3)
    × (ask (0xFF ∷ 0x00 ∷ 0x01 ∷ 0x02 ∷ 0x03 ∷ 0xC3 ∷ 0xFF ∷ 0xFE ∷ 0xFF ∷ 0xFF ∷ []) ≡ asks 9 (Serial 0x030201) 0xC3)
    × (ask (0x07 ∷ 0xFF ∷ 0x01 ∷ 0xC0 ∷ 0x58 ∷ 0xFF ∷ 0xFF ∷ []) ≡ asks 6 (Address 1) 0xC0)
    × (ask (0x01 ∷ 0xFF ∷ 0x01 ∷ 0xC3 ∷ []) ≡ refused R9 (1 ∷ []))
    × (ask (0xFF ∷ 0x01 ∷ 0x69 ∷ 0xFF ∷ 0xFF ∷ []) ≡ refused R6 (4 ∷ []))
    × (ask (0xFF ∷ 0x01 ∷ 0xC3 ∷ 0xE2 ∷ 0xFF ∷ 0xFF ∷ []) ≡ refused R6 (5 ∷ []))
    × (ask (0xFF ∷ 0x02 ∷ 0xC3 ∷ 0xE6 ∷ 0xFF ∷ 0xFF ∷ []) ≡ refused R5 (5 ∷ []))
    × (ask (0xFF ∷ 0x00 ∷ 0x02 ∷ 0x02 ∷ 0x03 ∷ 0xC3 ∷ 0xF0 ∷ 0xFF ∷ 0xFF ∷ []) ≡ refused R5 (8 ∷ []))
    × (ask (0xFF ∷ 0x01 ∷ 0xC6 ∷ 0x47 ∷ 0xFF ∷ 0xFF ∷ []) ≡ refused R7 (5 ∷ []))
    × (ask (0xFF ∷ 0x01 ∷ 0xBF ∷ 0xCB ∷ 0xFF ∷ 0xFF ∷ []) ≡ refused R7 (5 ∷ []))
    × (ask (0xFF ∷ 0x01 ∷ 0xC1 ∷ 0x31 ∷ 0xFF ∷ 0xFF ∷ []) ≡ refused R7 (5 ∷ []))
    × (ask (0xFF ∷ 0x01 ∷ 0xC3 ∷ 0x07 ∷ 0xE1 ∷ 0xFF ∷ 0xFF ∷ []) ≡ refused R7 (6 ∷ []))
    × (ask (0xFF ∷ 0x02 ∷ 0xC1 ∷ 0x34 ∷ 0xFF ∷ 0xFF ∷ []) ≡ refused R5 (5 ∷ []))
unfolding ask_of heard_of address_of ours code_of known bare told on_done read_of read_all run step grown answer_of judged bad_body too_short extended parts_of form_of address_length check enter_all enter enter_bits enter_bit fell_out pick
cases = (refl, refl, refl, refl, refl, refl, refl, refl, refl, refl, refl, refl, refl)

-- C0's reply in a buffer that it just fills and in one a byte shorter; one byte; weight and CON by the serial; an address that no frame begins with, and forms that their bytes would not give back
pub replies :
    (reply_of (Address 1) 0xC0 R.Nothing 6 ≡ done (0xFF ∷ 0x01 ∷ 0xC0 ∷ 0x58 ∷ 0xFF ∷ 0xFF ∷ []))
    × (reply_of (Address 1) 0xC0 R.Nothing 5 ≡ refused R8 [])
    × (reply_of (Address 1) 0xC4 (R.Byte 5) 20 ≡ done (0xFF ∷ 0x01 ∷ 0xC4 ∷ 0x05 ∷ 0x3A ∷ 0xFF ∷ 0xFF ∷ []))
    × (reply_of (Serial 0x030201) 0xC3 (R.Weight (record { low = 0x50; middle = 0; high = 0; con = 2 })) 20
    ≡ done (0xFF ∷ 0x00 ∷ 0x01 ∷ 0x02 ∷ 0x03 ∷ 0xC3 ∷ 0x50 ∷ 0x00 ∷ 0x00 ∷ 0x02 ∷ 0x13 ∷ 0xFF ∷ 0xFF ∷ []))
    × (reply_of (Address 0xFF) 0xC0 R.Nothing 20 ≡ refused R14 [])
    × (reply_of (Address 0) 0xC0 R.Nothing 20 ≡ refused improper [])
    × (reply_of (Serial 0x1000000) 0xC0 R.Nothing 20 ≡ refused improper [])
unfolding reply_of on_done build_of proper framable_of reply_bytes field_bytes write_of framable fewest extended in_room frame sent sent_byte body_of address_bytes check enter_all enter enter_bits enter_bit fell_out pick
replies = (refl, refl, refl, refl, refl, refl, refl)
