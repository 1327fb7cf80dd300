-- Numbers as text: decimal without leading zeros, and hexadecimal in upper case; written and read. Assumes nothing.
use Rattle.std.specs.Prelude.{◌≡◌, refl, Bool, ◌&&◌, List, [], ◌∷◌, ◌++◌, ℕ, zero, suc, ◌+◌, ◌-◌, ◌*◌, ◌/◌, ◌%◌, leb, ltb}
use Rattle.laws.specs.Pick.{pick}

-- the ASCII code of a digit below 16, letters in upper case
unfoldable pub glyph : ℕ → ℕ
glyph d = pick (ltb d 10) (48 + d) (55 + d)

-- the decimal digits of n; f bounds the steps, and n itself is enough
unfoldable pub digits_of : ℕ → ℕ → List ℕ
digits_of zero n = glyph (n % 10) ∷ []
digits_of (suc f) n = let high = digits_of f (n / 10) in pick (ltb n 10) [] high ++ glyph (n % 10) ∷ []

-- numbers are decimal without leading zeros
unfoldable pub decimal : ℕ → List ℕ
decimal n = digits_of n n

-- the last k hexadecimal digits of n, the highest first
unfoldable pub hex_of : ℕ → ℕ → List ℕ
hex_of zero n = []
hex_of (suc k) n = hex_of k (n / 16) ++ glyph (n % 16) ∷ []

-- what reading at the start of some bytes finds: a value and what follows it, or nothing good
pub data Parsed (X : Type 0) : Type 0 where
  good : X → List ℕ → Parsed X
  bad : Parsed X

unfoldable pub is_digit : ℕ → Bool
is_digit b = leb 48 b && leb b 57

-- the digits at the start of l, after others that came to v, as long as no number on the way is above most
unfoldable pub digits_from : ℕ → ℕ → List ℕ → Parsed ℕ
digits_from most v [] = good v []
digits_from most v (b ∷ bs) =
    let more = digits_from most (v * 10 + (b - 48)) bs in
    pick (is_digit b) (pick (ltb most (v * 10 + (b - 48))) bad more) (good v (b ∷ bs))

-- a number of at most `most` at the start of l: at least one digit; after a leading 0 no other digit belongs to it
unfoldable pub number_at : ℕ → List ℕ → Parsed ℕ
number_at most [] = bad
number_at most (b ∷ bs) = let more = digits_from most 0 (b ∷ bs) in pick (is_digit b) (pick (leb b 48) (good 0 bs) more) bad

pub cases :
    (decimal 0 ≡ 48 ∷ [])
    × (decimal 9999999 ≡ 57 ∷ 57 ∷ 57 ∷ 57 ∷ 57 ∷ 57 ∷ 57 ∷ [])
    × (decimal 1050 ≡ 49 ∷ 48 ∷ 53 ∷ 48 ∷ [])
    × (hex_of 4 0x7F3A ≡ 55 ∷ 70 ∷ 51 ∷ 65 ∷ [])
    × (number_at 999 (49 ∷ 48 ∷ 53 ∷ 9 ∷ []) ≡ good 105 (9 ∷ []))
    × (number_at 104 (49 ∷ 48 ∷ 53 ∷ 9 ∷ []) ≡ bad)
    × (number_at 999 (48 ∷ 49 ∷ []) ≡ good 0 (49 ∷ []))
    × (number_at 999 (45 ∷ 49 ∷ []) ≡ bad)
unfolding decimal digits_of glyph hex_of number_at digits_from is_digit pick
cases = (refl, refl, refl, refl, refl, refl, refl, refl)
