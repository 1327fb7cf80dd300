-- What a MODBUS RTU frame asks of the box (document 02, W2). Assumes nothing.
use Rattle.std.specs.Prelude.{◌≡◌, refl, Bool, true, false, ◌&&◌, ◌||◌, List, [], ◌∷◌, ℕ, ◌+◌, ◌-◌, ◌*◌, ◌/◌, ◌%◌, leb, eqb, length, get_or, take, replicate}
use Rattle.laws.specs.Pick.{pick}
use Rattle.paper.specs.Answer.{Answer, done, refused}
use Rattle.paper.specs.Numbers.{R17}
use Rattle.modbus.specs.Crc.{crc, crc_bytes, sealed, enter_all, enter, shifts, shift, fell_out}

-- what a frame asks: registers from a first one on; the link start set or cleared; an exception, with the function and its number
pub data Ask : Type 0 where
  registers : ℕ → ℕ → Ask
  link : Bool → Ask
  exception : ℕ → ℕ → Ask

-- ---- R17: silent, before anything else

-- numbers in the data are high byte first
unfoldable pub word_at : List ℕ → ℕ → ℕ
word_at frame i = get_or frame i 0 * 256 + get_or frame (i + 1) 0

unfoldable pub function_of : List ℕ → ℕ
function_of frame = get_or frame 1 0

-- bad length (8 for 03 and 06, else 4..256)
unfoldable pub length_good : List ℕ → Bool
length_good frame =
    pick (eqb (function_of frame) 3 || eqb (function_of frame) 6) (eqb (length frame) 8) (leb 4 (length frame) && leb (length frame) 256)

-- the last two bytes are the CRC of those before them, low byte first
unfoldable pub crc_good : List ℕ → Bool
crc_good frame =
    let c = crc (take (length frame - 2) frame) in
    eqb (get_or frame (length frame - 2) 0) (c % 256) && eqb (get_or frame (length frame - 1) 0) (c / 256)

-- the address is ours, or 0, which is for all
unfoldable pub address_good : ℕ → List ℕ → Bool
address_good address frame = eqb (get_or frame 0 0) address || eqb (get_or frame 0 0) 0

-- ---- functions 03 and 06, and their exceptions

-- 03 asks start and quantity: a quantity outside 1..125 is exception 03, then a register that is none of 0..10 exception 02
unfoldable pub read_ask : ℕ → ℕ → Ask
read_ask start quantity =
    pick (leb 1 quantity && leb quantity 125)
    (pick (leb (start + quantity) 11) (registers start quantity) (exception 3 2))
    (exception 3 3)

-- For 06 a wrong register (02) goes before a wrong value (03): 10 is the only one written, 0 or 1
unfoldable pub write_ask : ℕ → ℕ → Ask
write_ask register value =
    pick (eqb register 10)
    (pick (leb value 1) (link (eqb value 1)) (exception 6 3))
    (exception 6 2)

-- any other function is exception 01
unfoldable pub ask_by : ℕ → List ℕ → Ask
ask_by function frame =
    pick (eqb function 3) (read_ask (word_at frame 2) (word_at frame 4))
    (pick (eqb function 6) (write_ask (word_at frame 2) (word_at frame 4))
    (exception function 1))

-- a frame that is not silent: whether it is for all, and what it asks
pub record Heard : Type 0 where
  pub for_all : Bool
  pub ask : Ask

abbrev pub heard : Bool → Ask → Heard
heard for_all ask = record { for_all = for_all; ask = ask }

-- A good write to address 0 acts without a reply; anything else sent there is silent with R17
unfoldable pub heard_by_all : Ask → Answer Heard
heard_by_all (registers start quantity) = refused R17 []
heard_by_all (link on) = done (heard true (link on))
heard_by_all (exception function number) = refused R17 []

unfoldable pub heard_by : Bool → Ask → Answer Heard
heard_by for_all ask = pick for_all (heard_by_all ask) (done (heard false ask))

-- a frame with a bad CRC, bad length or another address is silent with R17, before anything else
unfoldable pub hear_of : ℕ → List ℕ → Answer Heard
hear_of address frame =
    pick (length_good frame && crc_good frame && address_good address frame)
    (heard_by (eqb (get_or frame 0 0) 0) (ask_by (function_of frame) frame))
    (refused R17 [])

-- ---- cases

-- what a master sends to ask 03 or 06 of an address: two numbers below 65,536, and the CRC
abbrev pub asked : ℕ → ℕ → ℕ → ℕ → List ℕ
asked address function a b = sealed (address ∷ function ∷ a / 256 ∷ a % 256 ∷ b / 256 ∷ b % 256 ∷ [])

pub cases :
    -- a read may begin and end anywhere within 0..10
    (hear_of 1 (asked 1 3 4 2) ≡ done (heard false (registers 4 2)))
    × (hear_of 1 (asked 1 3 0 11) ≡ done (heard false (registers 0 11)))
    × (hear_of 1 (asked 1 3 10 1) ≡ done (heard false (registers 10 1)))
    × (hear_of 1 (asked 1 3 0 12) ≡ done (heard false (exception 3 2)))
    × (hear_of 1 (asked 1 3 11 1) ≡ done (heard false (exception 3 2)))
    × (hear_of 1 (asked 1 3 0 125) ≡ done (heard false (exception 3 2)))
    -- the quantity goes before the register
    × (hear_of 1 (asked 1 3 0 126) ≡ done (heard false (exception 3 3)))
    × (hear_of 1 (asked 1 3 99 0) ≡ done (heard false (exception 3 3)))
    -- the register goes before the value
    × (hear_of 1 (asked 1 6 10 1) ≡ done (heard false (link true)))
    × (hear_of 1 (asked 1 6 10 0) ≡ done (heard false (link false)))
    × (hear_of 1 (asked 1 6 10 2) ≡ done (heard false (exception 6 3)))
    × (hear_of 1 (asked 1 6 10 256) ≡ done (heard false (exception 6 3)))
    × (hear_of 1 (asked 1 6 9 2) ≡ done (heard false (exception 6 2)))
    -- other functions
    × (hear_of 1 (sealed (1 ∷ 0x10 ∷ [])) ≡ done (heard false (exception 0x10 1)))
    × (hear_of 1 (sealed (1 ∷ 0x83 ∷ [])) ≡ done (heard false (exception 0x83 1)))
    × (hear_of 1 (sealed (1 ∷ 0 ∷ [])) ≡ done (heard false (exception 0 1)))
    -- address 0
    × (hear_of 1 (asked 0 6 10 1) ≡ done (heard true (link true)))
    × (hear_of 1 (asked 0 6 10 2) ≡ refused R17 [])
    × (hear_of 1 (asked 0 3 0 1) ≡ refused R17 [])
    × (hear_of 1 (sealed (0 ∷ 0x10 ∷ [])) ≡ refused R17 [])
    -- another address, another length, no CRC
    × (hear_of 1 (asked 2 3 0 1) ≡ refused R17 [])
    × (hear_of 1 (sealed (1 ∷ 3 ∷ 0 ∷ 0 ∷ 0 ∷ 1 ∷ 0 ∷ [])) ≡ refused R17 [])
    × (hear_of 1 (1 ∷ 3 ∷ 0 ∷ 0 ∷ 0 ∷ 1 ∷ 0 ∷ 0 ∷ []) ≡ refused R17 [])
    × (hear_of 1 (1 ∷ 0x10 ∷ []) ≡ refused R17 [])
    × (hear_of 1 [] ≡ refused R17 [])
unfolding hear_of heard_by heard_by_all ask_by read_ask write_ask address_good crc_good length_good function_of word_at sealed crc_bytes crc enter_all enter shifts shift fell_out pick
cases = (refl, refl, refl, refl, refl, refl, refl, refl, refl, refl, refl, refl, refl, refl, refl, refl, refl, refl, refl, refl, refl, refl, refl, refl, refl)

-- half a CRC is none; 03 and 06 have 8 bytes, other functions up to 256; any other function, and any of another address
pub edges :
    (hear_of 1 (0x01 ∷ 0x03 ∷ 0 ∷ 4 ∷ 0 ∷ 2 ∷ 0x85 ∷ 0xCB ∷ []) ≡ refused R17 [])
    × (hear_of 1 (0x01 ∷ 0x03 ∷ 0 ∷ 4 ∷ 0 ∷ 2 ∷ 0x84 ∷ 0xCA ∷ []) ≡ refused R17 [])
    × (hear_of 1 (sealed (1 ∷ 6 ∷ 0 ∷ 10 ∷ 0 ∷ 1 ∷ 0 ∷ [])) ≡ refused R17 [])
    × (hear_of 1 (sealed (1 ∷ 6 ∷ 0 ∷ 10 ∷ 0 ∷ [])) ≡ refused R17 [])
    × (hear_of 1 (sealed (1 ∷ 3 ∷ 0 ∷ 0 ∷ 0 ∷ [])) ≡ refused R17 [])
    × (hear_of 1 (sealed (1 ∷ 0x10 ∷ replicate 252 0)) ≡ done (heard false (exception 0x10 1)))
    × (hear_of 1 (sealed (1 ∷ 0x10 ∷ replicate 253 0)) ≡ refused R17 [])
    × (hear_of 1 (asked 1 4 0 1) ≡ done (heard false (exception 4 1)))
    × (hear_of 1 (asked 1 5 10 1) ≡ done (heard false (exception 5 1)))
    × (hear_of 1 (sealed (2 ∷ 0x10 ∷ [])) ≡ refused R17 [])
unfolding hear_of heard_by heard_by_all ask_by read_ask write_ask address_good crc_good length_good function_of word_at sealed crc_bytes crc enter_all enter shifts shift fell_out pick
edges = (refl, refl, refl, refl, refl, refl, refl, refl, refl, refl)
