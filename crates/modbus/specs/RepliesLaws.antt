-- A reply is a frame with a good CRC and of at most 27 bytes, and the words that a master reads in it are the registers asked. Assumes nothing.
use Rattle.std.specs.Prelude.{◌≡◌, refl, Bool, true, false, List, [], ◌∷◌, ℕ, ◌*◌, ◌≤◌, length, take, drop}
use Rattle.std.proofs.Common.{ap, ap₂, ◌∙◌, div-add-mod', arith, length-take, length-drop, take_at, le-leb}
use Rattle.laws.specs.Pick.{pick, pick-t}
use Rattle.paper.specs.Answer.{done, in_room}
use Rattle.modbus.specs.Crc.{crc, crc_bytes, sealed}
use Rattle.modbus.specs.CrcLaws.{crc-zero, sealed-length}
use Rattle.modbus.specs.Asks.{Ask, registers, link, exception, crc_good, asked}
use Rattle.modbus.specs.AsksLaws.{sealed-good}
use Rattle.modbus.specs.Replies.{word_bytes, registers_body, link_body, exception_body, reply_body, reply_of, words_in, registers_in}

pub bytes-length : (ws : List ℕ) → length (word_bytes ws) ≡ 2 * length ws
unfolding word_bytes
bytes-length [] = refl
bytes-length (w ∷ ws) = omega (arith, bytes-length ws)

-- no reply is longer than 27 bytes
pub reply-most : (address : ℕ) (words : List ℕ) (ask : Ask) → length words ≤ 11 → length (sealed (reply_body address words ask)) ≤ 27
unfolding reply_body registers_body link_body exception_body
reply-most address words (registers start quantity) h =
    let asked = take quantity (drop start words) in
    omega (arith, sealed-length (address ∷ 3 ∷ 2 * length asked ∷ word_bytes asked), bytes-length asked, length-take quantity (drop start words), length-drop start words)
reply-most address words (link on) h = omega (arith, sealed-length (link_body address on))
reply-most address words (exception function number) h = omega (arith, sealed-length (exception_body address function number))

-- so R8 is never given to a buffer of 27 or more
pub reply-fits : (address : ℕ) (words : List ℕ) (ask : Ask) (room : ℕ) → length words ≤ 11 → 27 ≤ room → reply_of address words ask room ≡ done (sealed (reply_body address words ask))
unfolding reply_of in_room
reply-fits address words ask room h k =
    pick-t _ _ _ (le-leb (length (sealed (reply_body address words ask))) room (omega (arith, reply-most address words ask h)))

-- ---- what a master reads

words_back : (ws : List ℕ) → words_in (word_bytes ws) ≡ ws
unfolding words_in word_bytes
words_back [] = refl
words_back (w ∷ ws) = ap₂ ◌∷◌ (div-add-mod' w 256) (words_back ws)

-- the words of a reply are the registers that were asked
pub registers-back : (address : ℕ) (words : List ℕ) (start quantity : ℕ)
    → registers_in (sealed (reply_body address words (registers start quantity))) ≡ take quantity (drop start words)
unfolding registers_in sealed reply_body registers_body
registers-back address words start quantity =
    let asked = take quantity (drop start words) in
    let c = crc_bytes (crc (address ∷ 3 ∷ 2 * length asked ∷ word_bytes asked)) in
    ap words_in (take_at (word_bytes asked) c (2 * length asked) (bytes-length asked)) ∙ words_back asked

-- 06 is answered by its echo: the reply is the frame that a master sends to ask it
pub echo : (address : ℕ) (words : List ℕ) (on : Bool) → sealed (reply_body address words (link on)) ≡ asked address 6 10 (pick on 1 0)
unfolding reply_body link_body pick
echo address words true = refl
echo address words false = refl

-- every reply has a good CRC, and the CRC over all of it is 0
pub reply-good : (address : ℕ) (words : List ℕ) (ask : Ask) → (crc_good (sealed (reply_body address words ask)) ≡ true) × (crc (sealed (reply_body address words ask)) ≡ 0)
reply-good address words ask = (sealed-good (reply_body address words ask), crc-zero (reply_body address words ask))
