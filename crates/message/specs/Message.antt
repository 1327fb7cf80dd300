-- What stands in a body (document 01, "On the line"): address, operation code, data, check byte. Assumes nothing.
use Rattle.std.specs.Prelude.{◌≡◌, refl, Bool, not, List, [], ◌∷◌, ◌++◌, ℕ, ◌+◌, ◌-◌, ◌*◌, ◌/◌, ◌%◌, leb, eqb, length, get_or, take, drop}
use Rattle.laws.specs.Pick.{pick}
use Rattle.paper.specs.Answer.{Answer, done, refused}
use Rattle.paper.specs.Numbers.{R6, R14}
use Rattle.frame.specs.Frame.{extended, framable, fewest}
use Rattle.frame.specs.Read.{too_short}
use Rattle.message.specs.declared.Form.{Form}
use Rattle.message.specs.declared.Form.TheVariants.{Address, Serial}
use Rattle.message.specs.declared.Parts.{Parts}

-- three serial bytes, low first
abbrev pub serial_bytes : ℕ → List ℕ
serial_bytes n = n % 256 ∷ n / 256 % 256 ∷ n / 65536 % 256 ∷ []

-- the serial of three bytes
abbrev pub serial_of : ℕ → ℕ → ℕ → ℕ
serial_of low middle high = low + 256 * middle + 65536 * high

-- First byte 0 means an extended address: three serial bytes follow, low first
unfoldable pub address_bytes : Form → List ℕ
address_bytes (Address a) = a ∷ []
address_bytes (Serial n) = 0 ∷ serial_bytes n

-- a form that its bytes give back: an address other than 0, a serial of three bytes
unfoldable pub proper : Form → Bool
proper (Address a) = not (eqb a 0)
proper (Serial n) = leb n 16777215

-- Body: address, operation code, data, (check byte)
unfoldable pub body_of : Form → ℕ → List ℕ → List ℕ
body_of form operation data' = address_bytes form ++ operation ∷ data'

-- how many bytes the address of a body takes
unfoldable pub address_length : List ℕ → ℕ
address_length body = pick (extended body) 4 1

unfoldable pub form_of : List ℕ → Form
form_of body =
    pick (extended body) (Serial (serial_of (get_or body 1 0) (get_or body 2 0) (get_or body 3 0))) (Address (get_or body 0 0))

-- a finished body's parts; its data end before the check byte
unfoldable pub parts_of : List ℕ → Parts
parts_of body =
    record {
      form = form_of body;
      operation = get_or body (address_length body) 0;
      from = address_length body + 1;
      to = length body - 1;
    }

-- the data of a body with these parts
unfoldable pub data_of : List ℕ → Parts → List ℕ
data_of body p = take (p.to - p.from) (drop p.from body)

-- R6: finished body under 3 bytes (6 if extended)
unfoldable pub split_of : List ℕ → Answer Parts
split_of body = pick (too_short body) (refused R6 []) (done (parts_of body))

-- R14: the body cannot be framed
unfoldable pub framable_of : Form → ℕ → List ℕ → Answer (List ℕ)
framable_of form operation data' = pick (framable (body_of form operation data')) (done (body_of form operation data')) (refused R14 [])

-- document 01 has no number for a form that its bytes do not give back; its numbers begin at 1
abbrev pub improper : ℕ
improper = 0

-- building: first that refusal, then R14
unfoldable pub build_of : Form → ℕ → List ℕ → Answer (List ℕ)
build_of form operation data' = pick (proper form) (framable_of form operation data') (refused improper [])

abbrev parts : Form → ℕ → ℕ → ℕ → Answer Parts
parts form operation from to = done (record { form = form; operation = operation; from = from; to = to })

-- C3 to address 1, and to serial 0x030201 with one byte of data; bodies that are too short; the greatest serial and one more, addresses 1 and 0, an address that begins no body
pub cases :
    (split_of (0x01 ∷ 0xC3 ∷ 0xE3 ∷ []) ≡ parts (Address 1) 0xC3 2 2)
    × (split_of (0 ∷ 1 ∷ 2 ∷ 3 ∷ 0xC3 ∷ 7 ∷ 9 ∷ []) ≡ parts (Serial 0x030201) 0xC3 5 6)
    × (split_of (0x01 ∷ 0x69 ∷ []) ≡ refused R6 [])
    × (split_of (0 ∷ 1 ∷ 2 ∷ 3 ∷ 0xC3 ∷ []) ≡ refused R6 [])
    × (build_of (Serial 0x030201) 0xC3 (7 ∷ []) ≡ done (0 ∷ 1 ∷ 2 ∷ 3 ∷ 0xC3 ∷ 7 ∷ []))
    × (build_of (Serial 0xFFFFFF) 0xC3 [] ≡ done (0 ∷ 0xFF ∷ 0xFF ∷ 0xFF ∷ 0xC3 ∷ []))
    × (build_of (Serial 0x1000000) 0xC3 [] ≡ refused improper [])
    × (build_of (Address 1) 0xC3 [] ≡ done (1 ∷ 0xC3 ∷ []))
    × (build_of (Address 0) 0xC3 (1 ∷ 2 ∷ 3 ∷ []) ≡ refused improper [])
    × (build_of (Address 0xFE) 0xC3 [] ≡ refused R14 [])
unfolding split_of parts_of form_of address_length too_short extended build_of proper framable_of body_of address_bytes framable fewest pick
cases = (refl, refl, refl, refl, refl, refl, refl, refl, refl, refl)
