-- The check byte (document 01, "On the line"). Assumes nothing.
use Rattle.std.specs.Prelude.{ℕ, zero, suc, ◌+◌, ◌*◌, ◌/◌, ◌%◌, ◌^◌, Bool, true, false, List, [], ◌∷◌, leb}
use Rattle.std.specs.Int.Bits.{bit_xor}

-- a bit shifted out at the top xors 69h
unfoldable pub fell_out : Bool → ℕ → ℕ
fell_out true s = bit_xor s 0x69
fell_out false s = s

-- one bit b enters the state s at the low end
unfoldable pub enter_bit : ℕ → ℕ → ℕ
enter_bit s b = fell_out (leb 128 s) ((s * 2 + b) % 256)

-- the low k bits of x enter, highest first
unfoldable pub enter_bits : ℕ → ℕ → ℕ → ℕ
enter_bits zero s x = s
enter_bits (suc k) s x = enter_bits k (enter_bit s (x / 2 ^ k % 2)) x

-- each body byte enters bit by bit
unfoldable pub enter : ℕ → ℕ → ℕ
enter s x = enter_bits 8 s x

unfoldable pub enter_all : ℕ → List ℕ → ℕ
enter_all s [] = s
enter_all s (x ∷ xs) = enter_all (enter s x) xs

-- The check byte starts at 0; a zero byte is added at the end
unfoldable pub check : List ℕ → ℕ
check body = enter (enter_all 0 body) 0
