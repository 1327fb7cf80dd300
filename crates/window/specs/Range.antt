-- Numbers, and lists of numbers, within a range. Assumes nothing.
use Rattle.std.specs.Prelude.{◌≡◌, List, [], ◌∷◌, ℕ, ◌≤◌, ℤ, pos, negsuc, nat_abs}
use Rattle.window.specs.Mean.{sum_of}

-- a is at most b
unfoldable pub Le : ℤ → ℤ → Type 0
Le (pos a) (pos b) = a ≤ b
Le (pos a) (negsuc b) = ⊥
Le (negsuc a) (pos b) = Unit
Le (negsuc a) (negsuc b) = b ≤ a

-- from low to high
abbrev pub Between : ℤ → ℤ → ℤ → Type 0
Between low high z = Le low z × Le z high

-- each is from low to high
unfoldable pub Each : ℤ → ℤ → List ℤ → Type 0
Each low high [] = Unit
Each low high (x ∷ xs) = Le low x × Le x high × Each low high xs

-- each is an i32
abbrev pub AllI32 : List ℤ → Type 0
AllI32 xs = Each (negsuc 2147483647) (pos 2147483647) xs

-- each is at most b in size
unfoldable pub Within : ℕ → List ℤ → Type 0
Within b [] = Unit
Within b (x ∷ xs) = (nat_abs x ≤ b) × Within b xs

-- s is the sum of the numbers, and they are i32s
pub record Total (xs : List ℤ) (s : ℤ) : Type 0 where
  pub adds : s ≡ sum_of xs
  pub all : AllI32 xs
