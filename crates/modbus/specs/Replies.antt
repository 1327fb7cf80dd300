-- The replies of a MODBUS RTU slave (document 02, W2; the public MODBUS documents). Assumes nothing.
use Rattle.std.specs.Prelude.{◌≡◌, refl, Bool, true, false, List, [], ◌∷◌, ℕ, ◌+◌, ◌*◌, ◌/◌, ◌%◌, leb, length, get_or, take, drop}
use Rattle.laws.specs.Pick.{pick}
use Rattle.paper.specs.Answer.{Answer, done, refused, in_room}
use Rattle.paper.specs.Numbers.{R8}
use Rattle.modbus.specs.Crc.{crc, crc_bytes, sealed, enter_all, enter, shifts, shift, fell_out}
use Rattle.modbus.specs.Asks.{Ask, registers, link, exception, Heard, heard}

-- high byte first
unfoldable pub word_bytes : List ℕ → List ℕ
word_bytes [] = []
word_bytes (w ∷ ws) = w / 256 ∷ w % 256 ∷ word_bytes ws

-- 03 is answered with a byte count and the registers
unfoldable pub registers_body : ℕ → List ℕ → List ℕ
registers_body address words = address ∷ 3 ∷ 2 * length words ∷ word_bytes words

-- 06 is answered by its echo
unfoldable pub link_body : ℕ → Bool → List ℕ
link_body address on = address ∷ 6 ∷ 0 ∷ 10 ∷ 0 ∷ pick on 1 0 ∷ []

-- an exception is the function with its top bit set and one byte
unfoldable pub top_bit : ℕ → ℕ
top_bit function = pick (leb 128 function) function (function + 128)

unfoldable pub exception_body : ℕ → ℕ → ℕ → List ℕ
exception_body address function number = address ∷ top_bit function ∷ number ∷ []

-- what a reply says before its CRC; `words` are the registers 0 to 10
unfoldable pub reply_body : ℕ → List ℕ → Ask → List ℕ
reply_body address words (registers start quantity) = registers_body address (take quantity (drop start words))
reply_body address words (link on) = link_body address on
reply_body address words (exception function number) = exception_body address function number

-- R8 is for any reply that does not fit
unfoldable pub reply_of : ℕ → List ℕ → Ask → ℕ → Answer (List ℕ)
reply_of address words ask room = in_room [] room (sealed (reply_body address words ask))

-- A good write to address 0 acts without a reply, whatever the buffer
unfoldable pub served_of : ℕ → List ℕ → Heard → ℕ → Answer (List ℕ)
served_of address words h room = pick h.for_all (done []) (reply_of address words h.ask room)

-- the link start after what was asked: a write sets or clears it, and nothing else does
unfoldable pub link_after : Ask → Bool → Bool
link_after (registers start quantity) now = now
link_after (link on) now = on
link_after (exception function number) now = now

-- ---- what a master reads in a reply to 03

-- two bytes a word, high byte first
unfoldable pub words_in : List ℕ → List ℕ
words_in [] = []
words_in (high ∷ []) = []
words_in (high ∷ low ∷ bytes) = (high * 256 + low) ∷ words_in bytes

-- as many bytes as the byte count says, behind it
unfoldable pub registers_in : List ℕ → List ℕ
registers_in reply = words_in (take (get_or reply 2 0) (drop 3 reply))

-- ---- cases

pub cases :
    (sealed (reply_body 1 (0 ∷ 0 ∷ 0 ∷ 0 ∷ 0 ∷ 0 ∷ 0 ∷ 0 ∷ 0 ∷ 0 ∷ 0 ∷ []) (registers 4 2)) ≡ 0x01 ∷ 0x03 ∷ 0x04 ∷ 0 ∷ 0 ∷ 0 ∷ 0 ∷ 0xFA ∷ 0x33 ∷ [])
    × (sealed (reply_body 1 [] (exception 6 3)) ≡ 0x01 ∷ 0x86 ∷ 0x03 ∷ 0x02 ∷ 0x61 ∷ [])
    × (reply_body 1 [] (exception 0 1) ≡ 1 ∷ 0x80 ∷ 1 ∷ [])
    × (reply_body 1 [] (exception 0x83 1) ≡ 1 ∷ 0x83 ∷ 1 ∷ [])
    × (reply_body 7 [] (link true) ≡ 7 ∷ 6 ∷ 0 ∷ 10 ∷ 0 ∷ 1 ∷ [])
    × (reply_body 1 (0x1234 ∷ 0x5678 ∷ 0x9ABC ∷ []) (registers 1 1) ≡ 1 ∷ 3 ∷ 2 ∷ 0x56 ∷ 0x78 ∷ [])
    × (registers_in (0x01 ∷ 0x03 ∷ 0x04 ∷ 0x12 ∷ 0x34 ∷ 0x56 ∷ 0x78 ∷ 0x81 ∷ 0x07 ∷ []) ≡ 0x1234 ∷ 0x5678 ∷ [])
unfolding registers_in words_in reply_body registers_body link_body exception_body top_bit word_bytes sealed crc_bytes crc enter_all enter shifts shift fell_out pick
cases = (refl, refl, refl, refl, refl, refl, refl)

-- a write for all has no reply in a buffer of no bytes; one for us has its echo, and R8 a byte short of it; an exception has R8 too
pub served :
    (served_of 1 [] (heard true (link true)) 0 ≡ done [])
    × (served_of 1 [] (heard false (link true)) 8 ≡ done (sealed (link_body 1 true)))
    × (served_of 1 [] (heard false (link true)) 7 ≡ refused R8 [])
    × (served_of 1 [] (heard false (exception 6 3)) 5 ≡ done (0x01 ∷ 0x86 ∷ 0x03 ∷ 0x02 ∷ 0x61 ∷ []))
    × (served_of 1 [] (heard false (exception 6 3)) 4 ≡ refused R8 [])
unfolding served_of reply_of in_room reply_body link_body exception_body top_bit sealed crc_bytes crc enter_all enter shifts shift fell_out pick
served = (refl, refl, refl, refl, refl)

pub links :
    (link_after (link true) false ≡ true)
    × (link_after (link false) true ≡ false)
    × (link_after (registers 10 1) true ≡ true)
    × (link_after (exception 6 3) true ≡ true)
unfolding link_after
links = (refl, refl, refl, refl)
