-- A weight as an IEEE single (binary32) in two registers (document 02, W2). Assumes nothing.
use Rattle.std.specs.Prelude.{◌≡◌, ℕ, ◌+◌, ◌*◌, ◌/◌, ◌%◌, ◌≤◌, leb, ℤ, nat_abs, Float, Option, Some, None}
use Rattle.std.specs.Float.{binary32}
use Rattle.std.specs.Float.Ieee.{of_int, to_bits, of_bits, to_signed}
use Rattle.laws.specs.Pick.{pick}
use Rattle.paper.specs.Answer.{same}
use Rattle.single.specs.declared.Words.{Words}

-- weights stay within 924,998
abbrev pub most : ℕ
most = 924998

abbrev pub InRange : ℤ → Type 0
InRange w = nat_abs w ≤ most

-- the whole number as an f32
unfoldable pub single_of : ℤ → Float
single_of w = of_int binary32 w

unfoldable pub bits_of : ℤ → ℕ
bits_of w = to_bits binary32 (single_of w)

-- high word first
unfoldable pub words_of : ℤ → Words
words_of w = record { high = bits_of w / 65536; low = bits_of w % 65536 }

-- of any whole number: its words, or that it is no weight within the range
unfoldable pub registers_of : ℤ → Option Words
registers_of w = pick (leb (nat_abs w) most) (Some (words_of w)) None

-- what a reader of two registers takes for the weight: the f32 of those bits, as a whole number
unfoldable pub weight_in : Words → ℤ
weight_in r = to_signed 31 (of_bits binary32 (r.high * 65536 + r.low))

-- ---- the contract

abbrev pub Gives : ℤ → Option Words → Type 0
Gives w r = r ≡ registers_of w

-- two results that both meet the call's contract are equal
pub words-determined : (w : ℤ) (a b : Option Words) → Gives w a → Gives w b → a ≡ b
words-determined w a b p q = same p q
