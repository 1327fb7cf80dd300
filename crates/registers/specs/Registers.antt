-- The registers of the box (document 02, W2). Assumes nothing.
use Rattle.std.specs.Prelude.{◌≡◌, refl, true, List, [], ◌∷◌, ℕ, ◌/◌, ◌%◌}
use Rattle.laws.specs.Pick.{pick}
use Rattle.paper.specs.Answer.{same}
use Rattle.registers.specs.declared.Values.{Values}

-- Registers, ours: 0-1 the C3 weight and 2-3 the C2 weight as f32, high word first; 4 inputs; 5 outputs; 6-7 count; 8-9 total, both high word first; 10 link start
unfoldable pub table_of : Values → List ℕ
table_of v =
    v.c3.high
    ∷ v.c3.low
    ∷ v.c2.high
    ∷ v.c2.low
    ∷ v.inputs
    ∷ v.outputs
    ∷ v.count / 65536
    ∷ v.count % 65536
    ∷ v.total / 65536
    ∷ v.total % 65536
    ∷ pick v.link 1 0
    ∷ []

-- ---- the contract

abbrev pub Lists : Values → List ℕ → Type 0
Lists v r = r ≡ table_of v

-- two results that both meet the call's contract are equal
pub words-determined : (v : Values) (a b : List ℕ) → Lists v a → Lists v b → a ≡ b
words-determined v a b p q = same p q

-- ---- cases

pub cases :
    table_of (record { c3 = record { high = 0x42C8; low = 1 }; c2 = record { high = 0x4248; low = 2 }; inputs = 5; outputs = 9; count = 65537; total = 999999999; link = true })
    ≡ 0x42C8 ∷ 1 ∷ 0x4248 ∷ 2 ∷ 5 ∷ 9 ∷ 1 ∷ 1 ∷ 15258 ∷ 51711 ∷ 1 ∷ []
unfolding table_of pick
cases = refl
