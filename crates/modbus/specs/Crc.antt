-- CRC-16 of MODBUS RTU (the public MODBUS documents). Assumes nothing.
use Rattle.std.specs.Prelude.{◌≡◌, refl, Bool, true, false, List, [], ◌∷◌, ◌++◌, ℕ, zero, suc, ◌/◌, ◌%◌, eqb}
use Rattle.std.specs.Int.Bits.{bit_xor}

-- A001 is xored when a 1 falls out
unfoldable pub fell_out : Bool → ℕ → ℕ
fell_out true c = bit_xor c 0xA001
fell_out false c = c

-- one shift right
unfoldable pub shift : ℕ → ℕ
shift c = fell_out (eqb (c % 2) 1) (c / 2)

unfoldable pub shifts : ℕ → ℕ → ℕ
shifts zero c = c
shifts (suc k) c = shifts k (shift c)

-- a byte is xored into the low half, eight shifts follow
unfoldable pub enter : ℕ → ℕ → ℕ
enter c b = shifts 8 (bit_xor c b)

unfoldable pub enter_all : ℕ → List ℕ → ℕ
enter_all c [] = c
enter_all c (b ∷ bs) = enter_all (enter c b) bs

-- it starts at FFFF
unfoldable pub crc : List ℕ → ℕ
crc bytes = enter_all 0xFFFF bytes

-- low byte first
unfoldable pub crc_bytes : ℕ → List ℕ
crc_bytes c = c % 256 ∷ c / 256 ∷ []

-- what is sent of a body: the body and its CRC
unfoldable pub sealed : List ℕ → List ℕ
sealed body = body ++ crc_bytes (crc body)

-- the public documents' cases: 02 07 has 41 12, 01 03 00 00 00 0A has C5 CD, "123456789" has 4B37
pub cases :
    (crc_bytes (crc (0x02 ∷ 0x07 ∷ [])) ≡ 0x41 ∷ 0x12 ∷ [])
    × (crc_bytes (crc (0x01 ∷ 0x03 ∷ 0 ∷ 0 ∷ 0 ∷ 0x0A ∷ [])) ≡ 0xC5 ∷ 0xCD ∷ [])
    × (crc (0x31 ∷ 0x32 ∷ 0x33 ∷ 0x34 ∷ 0x35 ∷ 0x36 ∷ 0x37 ∷ 0x38 ∷ 0x39 ∷ []) ≡ 0x4B37)
unfolding crc enter_all enter shifts shift fell_out crc_bytes
cases = (refl, refl, refl)
