-- Frames as they are sent (document 01, "On the line", R14, R8). Assumes nothing.
use Rattle.std.specs.Prelude.{◌≡◌, refl, ℕ, Bool, true, false, ◌&&◌, not, List, [], ◌∷◌, ◌++◌, length, get_or, replicate, leb, eqb}
use Rattle.laws.specs.Pick.{pick}
use Rattle.paper.specs.Answer.{Answer, done, refused, in_room}
use Rattle.paper.specs.Numbers.{R8, R14}
use Rattle.frame.specs.Check.{check, enter_all, enter, enter_bits, enter_bit, fell_out}

-- Inside a body FF is sent as FF FE
unfoldable pub sent_byte : ℕ → List ℕ
sent_byte x = pick (eqb x 0xFF) (0xFF ∷ 0xFE ∷ []) (x ∷ [])

unfoldable pub sent : List ℕ → List ℕ
sent [] = []
sent (x ∷ xs) = sent_byte x ++ sent xs

-- Frame: FF, body, FF FF. The body ends with its check byte
unfoldable pub frame : List ℕ → List ℕ
frame body = 0xFF ∷ (sent (body ++ check body ∷ []) ++ 0xFF ∷ 0xFF ∷ [])

-- First byte 0 means an extended address
unfoldable pub extended : List ℕ → Bool
extended body = eqb (get_or body 0 0) 0

-- how few bytes a body has before its check: 2, or 5 if it begins with 0
unfoldable pub fewest : List ℕ → ℕ
fewest body = pick (extended body) 5 2

-- a body that neither begins with FF or FE nor is of another length than 2..254 (5..254 if it begins with 0)
unfoldable pub framable : List ℕ → Bool
framable body =
    not (eqb (get_or body 0 0) 0xFF) && not (eqb (get_or body 0 0) 0xFE) && leb (fewest body) (length body) && leb (length body) 254

-- the writer: R14, then R8
unfoldable pub write_of : List ℕ → ℕ → Answer (List ℕ)
write_of body room = pick (framable body) (in_room [] room (frame body)) (refused R14 [])

-- the request C3 to address 1 in a buffer of 6 and of 5; a body with an FF; bodies that R14 turns down
pub cases :
    (write_of (0x01 ∷ 0xC3 ∷ []) 6 ≡ done (0xFF ∷ 0x01 ∷ 0xC3 ∷ 0xE3 ∷ 0xFF ∷ 0xFF ∷ []))
    × (write_of (0x01 ∷ 0xC3 ∷ []) 5 ≡ refused R8 [])
    × (write_of (0x01 ∷ 0xFF ∷ []) 9 ≡ done (0xFF ∷ 0x01 ∷ 0xFF ∷ 0xFE ∷ check (0x01 ∷ 0xFF ∷ []) ∷ 0xFF ∷ 0xFF ∷ []))
    × (write_of (0xFE ∷ 0xC3 ∷ []) 0 ≡ refused R14 [])
    × (write_of (0x01 ∷ []) 9 ≡ refused R14 [])
    × (write_of (0x00 ∷ 1 ∷ 2 ∷ 3 ∷ []) 9 ≡ refused R14 [])
unfolding write_of framable fewest extended in_room frame sent sent_byte check enter_all enter enter_bits enter_bit fell_out pick
cases = (refl, refl, refl, refl, refl, refl)

-- R14 at its edges: a first FF; one byte and two, 254 and 255; four bytes and five behind a first 0; 0 alone
pub edges :
    (framable (0xFF ∷ 0xC3 ∷ []) ≡ false)
    × (framable (0x01 ∷ []) ≡ false)
    × (framable (0x01 ∷ 0xC3 ∷ []) ≡ true)
    × (framable (replicate 254 0x01) ≡ true)
    × (framable (replicate 255 0x01) ≡ false)
    × (framable (0 ∷ 1 ∷ 2 ∷ 3 ∷ []) ≡ false)
    × (framable (0 ∷ 1 ∷ 2 ∷ 3 ∷ 0xC3 ∷ []) ≡ true)
    × (framable [] ≡ false)
unfolding framable fewest extended pick
edges = (refl, refl, refl, refl, refl, refl, refl, refl)
