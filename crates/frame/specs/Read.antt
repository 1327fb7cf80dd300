-- Reading frames byte by byte (document 01, "On the line", R9, R6). Assumes nothing.
use Rattle.std.specs.Prelude.{◌≡◌, refl, ℕ, suc, Bool, ◌||◌, not, List, [], ◌∷◌, ◌++◌, length, replicate, ltb, eqb}
use Rattle.laws.specs.Pick.{pick}
use Rattle.paper.specs.Answer.{Answer, done, refused}
use Rattle.paper.specs.Numbers.{R6, R9}
use Rattle.frame.specs.Check.{check, enter_all, enter, enter_bits, enter_bit, fell_out}
use Rattle.frame.specs.Frame.{extended}

-- how far reading has come
pub data Reading : Type 0 where
  -- skip to an FF
  seek : Reading
  -- seeking a first byte: the place of the last FF seen
  lead : ℕ → Reading
  -- a begun body: the place of the last FF before it, and its bytes so far
  body : ℕ → List ℕ → Reading
  -- the same, and the place of the FF that has just come
  mark : ℕ → List ℕ → ℕ → Reading
  -- a finished body, and the place of the second closing FF
  ended : List ℕ → ℕ → Reading

-- At the 256th body byte the body is dropped and the search goes on after it
unfoldable pub grown : ℕ → List ℕ → ℕ → Reading
grown p l b = pick (ltb (length l) 255) (body p (l ++ b ∷ [])) seek

-- the byte b at place i is read
unfoldable pub step : Reading → ℕ → ℕ → Reading
-- skip to an FF
step seek i b = pick (eqb b 0xFF) (lead i) seek
-- the body begins at the next byte that is neither FF nor FE
step (lead p) i b = pick (eqb b 0xFF) (lead i) (pick (eqb b 0xFE) (lead p) (body p (b ∷ [])))
step (body p l) i b = pick (eqb b 0xFF) (mark p l i) (grown p l b)
-- FF FF ends it; FF FE is an FF inside it; FF followed by another byte drops the body, and that byte begins a new one
step (mark p l q) i b = pick (eqb b 0xFF) (ended l i) (pick (eqb b 0xFE) (grown p l 0xFF) (body q (b ∷ [])))
step (ended l k) i b = ended l k

-- the bytes from place i on are read
unfoldable pub run : Reading → ℕ → List ℕ → Reading
run r i [] = r
run r i (b ∷ bs) = run (step r i b) (suc i) bs

unfoldable pub read_all : List ℕ → Reading
read_all s = run seek 0 s

-- R6: finished body under 3 bytes (6 if extended)
unfoldable pub too_short : List ℕ → Bool
too_short l = ltb (length l) (pick (extended l) 6 3)

-- R6: .. or check not 0
unfoldable pub bad_body : List ℕ → Bool
bad_body l = too_short l || not (eqb (check l) 0)

-- a finished body with its check byte, and the place of the second closing FF
pub record Finished : Type 0 where
  pub place : ℕ
  pub bytes : List ℕ

-- A finished body answers with the place of the second closing FF
unfoldable pub judged : List ℕ → ℕ → Answer Finished
judged l k = pick (bad_body l) (refused R6 (k ∷ [])) (done (record { place = k; bytes = l }))

-- With no frame finished, R9 answers the place from which to offer the bytes again, where n were offered:
-- the last FF before the begun body, else, while seeking a first byte, the last FF seen, else the length
unfoldable pub answer_of : ℕ → Reading → Answer Finished
answer_of n seek = refused R9 (n ∷ [])
answer_of n (lead p) = refused R9 (p ∷ [])
answer_of n (body p l) = refused R9 (p ∷ [])
answer_of n (mark p l q) = refused R9 (p ∷ [])
answer_of n (ended l k) = judged l k

unfoldable pub read_of : List ℕ → Answer Finished
read_of s = answer_of (length s) (read_all s)

abbrev finished : ℕ → List ℕ → Answer Finished
finished k l = done (record { place = k; bytes = l })

-- the request C3 to address 1, behind a dropped body and before an FF that may serve the next frame; nothing, an FF, a begun body, one with an FF at its end, one that is too short, one with a bad check
pub cases :
    (read_of (0xFF ∷ 0x01 ∷ 0xC3 ∷ 0xE3 ∷ 0xFF ∷ 0xFF ∷ []) ≡ finished 5 (0x01 ∷ 0xC3 ∷ 0xE3 ∷ []))
    × (read_of (7 ∷ 0xFF ∷ 9 ∷ 0xFF ∷ 0x01 ∷ 0xC3 ∷ 0xE3 ∷ 0xFF ∷ 0xFF ∷ 0xFF ∷ []) ≡ finished 8 (0x01 ∷ 0xC3 ∷ 0xE3 ∷ []))
    × (read_of (1 ∷ 2 ∷ []) ≡ refused R9 (2 ∷ []))
    × (read_of (1 ∷ 0xFF ∷ 0xFE ∷ []) ≡ refused R9 (1 ∷ []))
    × (read_of (1 ∷ 0xFF ∷ 5 ∷ 6 ∷ []) ≡ refused R9 (1 ∷ []))
    × (read_of (1 ∷ 0xFF ∷ 5 ∷ 0xFF ∷ []) ≡ refused R9 (1 ∷ []))
    × (read_of (0xFF ∷ 0x01 ∷ 0x69 ∷ 0xFF ∷ 0xFF ∷ []) ≡ refused R6 (4 ∷ []))
    × (read_of (0xFF ∷ 0x01 ∷ 0xC3 ∷ 0xE2 ∷ 0xFF ∷ 0xFF ∷ []) ≡ refused R6 (5 ∷ []))
unfolding read_of read_all run step grown answer_of judged bad_body too_short extended check enter_all enter enter_bits enter_bit fell_out pick
cases = (refl, refl, refl, refl, refl, refl, refl, refl)

-- the last FF before a body: of two FF the second, and behind a dropped body the one that dropped it; FE while seeking a first byte is skipped
pub places :
    (read_of (0xFF ∷ 0xFF ∷ 5 ∷ []) ≡ refused R9 (1 ∷ []))
    × (read_of (0xFF ∷ 0xFF ∷ 0xFE ∷ []) ≡ refused R9 (1 ∷ []))
    × (read_of (0xFF ∷ 9 ∷ 0xFF ∷ 5 ∷ []) ≡ refused R9 (2 ∷ []))
    × (read_of (0xFF ∷ 9 ∷ 0xFF ∷ 5 ∷ 0xFF ∷ []) ≡ refused R9 (2 ∷ []))
    × (read_of (0xFF ∷ 0xFE ∷ 0x01 ∷ 0xC3 ∷ 0xE3 ∷ 0xFF ∷ 0xFF ∷ []) ≡ finished 6 (0x01 ∷ 0xC3 ∷ 0xE3 ∷ []))
    × (read_of (0xFF ∷ 0x01 ∷ 0xC3 ∷ 0xE3 ∷ 0xFF ∷ 0xFF ∷ 0x02 ∷ 0xC3 ∷ 0xE6 ∷ 0xFF ∷ 0xFF ∷ []) ≡ finished 5 (0x01 ∷ 0xC3 ∷ 0xE3 ∷ []))
    × (read_of (0xFF ∷ 0x02 ∷ 0xC3 ∷ 0xE6 ∷ 0xFF ∷ 0xFF ∷ []) ≡ finished 5 (0x02 ∷ 0xC3 ∷ 0xE6 ∷ []))
unfolding read_of read_all run step grown answer_of judged bad_body too_short extended check enter_all enter enter_bits enter_bit fell_out pick
places = (refl, refl, refl, refl, refl, refl, refl)

-- 255 body bytes are a body, the 256th drops it, and so does an FF FE there; then an FF is sought again
pub longest :
    (read_of (0xFF ∷ replicate 255 1) ≡ refused R9 (0 ∷ []))
    × (read_of (0xFF ∷ (replicate 255 1 ++ 0xFF ∷ 0xFF ∷ [])) ≡ finished 257 (replicate 255 1))
    × (read_of (0xFF ∷ replicate 256 1) ≡ refused R9 (257 ∷ []))
    × (read_of (0xFF ∷ (replicate 256 1 ++ 0xFF ∷ 0xFF ∷ [])) ≡ refused R9 (258 ∷ []))
    × (read_of (0xFF ∷ (replicate 255 1 ++ 0xFF ∷ 0xFE ∷ [])) ≡ refused R9 (258 ∷ []))
    × (read_of (0xFF ∷ (replicate 255 1 ++ 0xFF ∷ 5 ∷ [])) ≡ refused R9 (256 ∷ []))
    × (read_of (0xFF ∷ (replicate 254 1 ++ 0xFF ∷ 0xFE ∷ [])) ≡ refused R9 (0 ∷ []))
unfolding read_of read_all run step grown answer_of judged bad_body too_short extended check enter_all enter enter_bits enter_bit fell_out pick
longest = (refl, refl, refl, refl, refl, refl, refl)
