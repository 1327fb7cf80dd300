-- The text of a number that may be below 0. Assumes nothing.
use Rattle.std.specs.Prelude.{◌≡◌, List, [], ◌∷◌, ◌++◌, ℕ, ◌+◌, ◌≤◌, length, ℤ, pos, negsuc, nat_abs}
use Rattle.laws.specs.Decimal.{decimal}
use Rattle.text.specs.Put.{Puts, puts-determined}

-- a minus where the number is below 0
unfoldable pub minus_of : ℤ → List ℕ
minus_of (pos n) = []
minus_of (negsuc n) = 45 ∷ []

-- a tab, the minus, and the number's size
unfoldable pub signed_text : ℤ → List ℕ
signed_text v = 9 ∷ minus_of v ++ decimal (nat_abs v)

-- where the whole text has room from `at` on, it stands there, everything else is as it was, and the place after it is answered
abbrev pub PutsSigned : List ℕ → ℕ → ℤ → List ℕ → ℕ → Type 0
PutsSigned old at v new r = at + length (signed_text v) ≤ length old → Puts old at (signed_text v) new r

-- two results that both meet the contract are equal where the text has room
pub signed-determined : {old new new' : List ℕ} {at r r' : ℕ} (v : ℤ) → at + length (signed_text v) ≤ length old → PutsSigned old at v new r → PutsSigned old at v new' r' → (new ≡ new') × (r ≡ r')
signed-determined v room p q = puts-determined (p room) (q room)
