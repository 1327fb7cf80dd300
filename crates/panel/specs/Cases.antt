-- MODBUS frames run on numbers. Assumes nothing.
use Rattle.std.specs.Prelude.{◌≡◌, refl, Bool, true, false, List, [], ◌∷◌, ℕ, pos}
use Rattle.std.specs.Float.Ieee.{of_int, to_bits}
use Rattle.laws.specs.Pick.{pick}
use Rattle.paper.specs.Answer.{Answer, done, refused, in_room}
use Rattle.paper.specs.Numbers.{R8, R17}
use Rattle.single.specs.Single.{single_of, bits_of, words_of}
use Rattle.registers.specs.Registers.{table_of}
use Rattle.modbus.specs.Crc.{sealed, crc_bytes, crc, enter_all, enter, shifts, shift, fell_out}
use Rattle.modbus.specs.Asks.{word_at, function_of, length_good, crc_good, address_good, read_ask, write_ask, ask_by, heard_by_all, heard_by, hear_of, asked}
use Rattle.modbus.specs.Replies.{word_bytes, registers_body, link_body, top_bit, exception_body, reply_body, reply_of, served_of}
use Rattle.scale.specs.Scale.{weight_from, weight_by}
use Rattle.controller.specs.State.{fresh_of, with_gates, with_alarm}
use Rattle.setup.specs.Setup.{link_of}
use Rattle.panel.specs.Modbus.{values_of, linked_by, served_by, serves_to, modbus_of}
use Rattle.controller.specs.Cases.{rules, ticked}
use Rattle.controller.specs.LineCases.{box}
use Rattle.controller.specs.declared.Controller.{Controller}
use Rattle.dosing.specs.Rules.{gates}

-- to unfold this is to unfold every rule of a MODBUS frame, and of the calls before it
unfoldable frames : Unit {0}
unfolding rules box link_of modbus_of serves_to served_by linked_by values_of table_of words_of bits_of single_of of_int to_bits weight_from weight_by hear_of heard_by heard_by_all ask_by read_ask write_ask address_good crc_good length_good function_of word_at served_of reply_of in_room reply_body registers_body link_body exception_body top_bit word_bytes sealed crc_bytes crc enter_all enter shifts shift fell_out pick
frames = tt

-- the fresh box: inputs and outputs; a link start of 2
pub examples :
    ((modbus_of fresh_of (0x01 ∷ 0x03 ∷ 0x00 ∷ 0x04 ∷ 0x00 ∷ 0x02 ∷ 0x85 ∷ 0xCA ∷ []) 64).answer ≡ done (0x01 ∷ 0x03 ∷ 0x04 ∷ 0x00 ∷ 0x00 ∷ 0x00 ∷ 0x00 ∷ 0xFA ∷ 0x33 ∷ []))
    × ((modbus_of fresh_of (0x01 ∷ 0x06 ∷ 0x00 ∷ 0x0A ∷ 0x00 ∷ 0x02 ∷ 0x28 ∷ 0x09 ∷ []) 64).answer ≡ done (0x01 ∷ 0x86 ∷ 0x03 ∷ 0x02 ∷ 0x61 ∷ []))
unfolding frames
examples = (refl, refl)

-- the C3 weight 50 by p8 before the C2 weight 100 by p7, each an f32, high word first; inputs 5, outputs 0; count 7 and total 9; the link start
pub registers-read :
    ((modbus_of box (asked 1 3 0 4) 64).answer ≡ done (sealed (1 ∷ 3 ∷ 8 ∷ 0x42 ∷ 0x48 ∷ 0 ∷ 0 ∷ 0x42 ∷ 0xC8 ∷ 0 ∷ 0 ∷ [])))
    × ((modbus_of box (asked 1 3 4 7) 64).answer ≡ done (sealed (1 ∷ 3 ∷ 14 ∷ 0 ∷ 5 ∷ 0 ∷ 0 ∷ 0 ∷ 0 ∷ 0 ∷ 7 ∷ 0 ∷ 0 ∷ 0 ∷ 9 ∷ 0 ∷ 0 ∷ [])))
    × ((modbus_of (link_of box true) (asked 1 3 10 1) 64).answer ≡ done (sealed (1 ∷ 3 ∷ 2 ∷ 0 ∷ 1 ∷ [])))
    -- the middle of a pair
    × ((modbus_of box (asked 1 3 1 2) 64).answer ≡ done (sealed (1 ∷ 3 ∷ 4 ∷ 0 ∷ 0 ∷ 0x42 ∷ 0xC8 ∷ [])))
unfolding frames
registers-read = (refl, refl, refl, refl)

-- the answer, and the link start after it
abbrev after : Controller → List ℕ → ℕ → Answer (List ℕ) × Bool
after c frame room = let r = modbus_of c frame room in (r.answer, r.next.link)

-- a write is answered by its echo and acts; in a buffer a byte shorter it is R8 and sets nothing; to address 0 it acts without a reply, with no buffer at all
pub writes :
    (after fresh_of (asked 1 6 10 1) 8 ≡ (done (asked 1 6 10 1), true))
    × (after fresh_of (asked 1 6 10 1) 7 ≡ (refused R8 [], false))
    × (after fresh_of (asked 0 6 10 1) 0 ≡ (done [], true))
    × (after (link_of fresh_of true) (asked 0 6 10 0) 0 ≡ (done [], false))
unfolding frames
writes = (refl, refl, refl, refl)

-- silent: a read sent to address 0, another address, a CRC high byte first, a frame of 9 bytes; an exception in a buffer too short for it is R8
pub turned_down :
    (after fresh_of (asked 0 3 0 1) 64 ≡ (refused R17 [], false))
    × (after fresh_of (asked 2 6 10 1) 64 ≡ (refused R17 [], false))
    × (after fresh_of (0x01 ∷ 0x03 ∷ 0x00 ∷ 0x04 ∷ 0x00 ∷ 0x02 ∷ 0xCA ∷ 0x85 ∷ []) 64 ≡ (refused R17 [], false))
    × (after fresh_of (sealed (1 ∷ 3 ∷ 0 ∷ 4 ∷ 0 ∷ 2 ∷ 0 ∷ [])) 64 ≡ (refused R17 [], false))
    × (after fresh_of (asked 1 6 9 1) 4 ≡ (refused R8 [], false))
unfolding frames
turned_down = (refl, refl, refl, refl, refl)

-- outputs 1, 3 and 4 are 13; register 10 is the link start and not input 4; a read just fills its buffer, and a byte short of it is R8
pub edges :
    ((modbus_of (with_gates (gates true false true) (with_alarm true fresh_of)) (asked 1 3 5 1) 64).answer ≡ done (sealed (1 ∷ 3 ∷ 2 ∷ 0 ∷ 13 ∷ [])))
    × ((modbus_of (ticked fresh_of ((pos 0, 8) ∷ [])) (asked 1 3 10 1) 64).answer ≡ done (sealed (1 ∷ 3 ∷ 2 ∷ 0 ∷ 0 ∷ [])))
    × ((modbus_of fresh_of (asked 1 3 4 2) 9).answer ≡ done (sealed (1 ∷ 3 ∷ 4 ∷ 0 ∷ 0 ∷ 0 ∷ 0 ∷ [])))
    × ((modbus_of fresh_of (asked 1 3 4 2) 8).answer ≡ refused R8 [])
unfolding frames
edges = (refl, refl, refl, refl)
