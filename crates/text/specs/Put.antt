-- Text put into a lent buffer at a place. Assumes nothing.
use Rattle.std.specs.Prelude.{◌≡◌, Bool, List, [], ◌∷◌, ℕ, ◌+◌, leb, length}
use Rattle.std.proofs.lemmas.List.Edits.{sets}
use Rattle.laws.specs.Pick.{pick}
use Rattle.laws.specs.Decimal.{decimal, hex_of}
use Rattle.paper.specs.Answer.{same}

-- the text has room from `at` on
unfoldable pub has_room : List ℕ → ℕ → List ℕ → Bool
has_room old at text = leb (at + length text) (length old)

-- where it has room the text stands at `at`, everything else is as it was, and the place after it is answered; else nothing changes and `at` is answered
pub record Puts (old : List ℕ) (at : ℕ) (text new : List ℕ) (r : ℕ) : Type 0 where
  pub left : new ≡ pick (has_room old at text) (sets old at text) old
  pub next : r ≡ pick (has_room old at text) (at + length text) at

-- what each call's result has to meet
abbrev pub CountsDigits : ℕ → ℕ → Type 0
CountsDigits n r = r ≡ length (decimal n)

abbrev pub PutsDecimal : List ℕ → ℕ → ℕ → List ℕ → ℕ → Type 0
PutsDecimal old at n new r = Puts old at (decimal n) new r

abbrev pub PutsHex : List ℕ → ℕ → ℕ → ℕ → List ℕ → ℕ → Type 0
PutsHex old at digits n new r = Puts old at (hex_of digits n) new r

abbrev pub PutsByte : List ℕ → ℕ → ℕ → List ℕ → ℕ → Type 0
PutsByte old at b new r = Puts old at (b ∷ []) new r

-- two results that both meet a call's contract are equal
pub length-determined : (n : ℕ) (a b : ℕ) → CountsDigits n a → CountsDigits n b → a ≡ b
length-determined n a b p q = same p q

pub puts-determined : {old text new new' : List ℕ} {at r r' : ℕ} → Puts old at text new r → Puts old at text new' r' → (new ≡ new') × (r ≡ r')
puts-determined p q = (same p.left q.left, same p.next q.next)

pub decimal-determined : (n : ℕ) {old new new' : List ℕ} {at r r' : ℕ} → PutsDecimal old at n new r → PutsDecimal old at n new' r' → (new ≡ new') × (r ≡ r')
decimal-determined n p q = puts-determined p q

pub hex-determined : (digits n : ℕ) {old new new' : List ℕ} {at r r' : ℕ} → PutsHex old at digits n new r → PutsHex old at digits n new' r' → (new ≡ new') × (r ≡ r')
hex-determined digits n p q = puts-determined p q

pub put-byte-determined : {old new new' : List ℕ} {at b r r' : ℕ} → PutsByte old at b new r → PutsByte old at b new' r' → (new ≡ new') × (r ≡ r')
put-byte-determined p q = puts-determined p q
