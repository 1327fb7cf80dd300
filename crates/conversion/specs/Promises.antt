-- What each call of this crate promises, and that two results which both keep the promise are equal. Assumes nothing.
use Rattle.std.specs.Prelude.{◌≡◌, List, ℕ, length, Result}
use Rattle.paper.specs.Answer.{Fills, fills_one}
use Rattle.conversion.specs.Conversion.{renewed_of, restored_of}
use Rattle.conversion.specs.Says.{says_converted, converted-one}
use Rattle.conversion.specs.declared.ConvertError.{ConvertError}

-- renew: an old journal in the new form from the buffer's start, or a refusal that leaves the buffer as it was
abbrev pub Renews : List ℕ → Result ℕ ConvertError → List ℕ → List ℕ → Type 0
Renews s r old new = Fills (says_converted r) (renewed_of s (length old)) old new

pub renew-determined : (s old : List ℕ) (a b : Result ℕ ConvertError) {new new' : List ℕ} → Renews s a old new → Renews s b old new' → (a ≡ b) × (new ≡ new')
renew-determined s old a b p q = let e = fills_one p q in (converted-one a b e.0, e.1)

-- restore: a new journal in the old form from the buffer's start, or a refusal that leaves the buffer as it was
abbrev pub Restores : List ℕ → Result ℕ ConvertError → List ℕ → List ℕ → Type 0
Restores s r old new = Fills (says_converted r) (restored_of s (length old)) old new

pub restore-determined : (s old : List ℕ) (a b : Result ℕ ConvertError) {new new' : List ℕ} → Restores s a old new → Restores s b old new' → (a ≡ b) × (new ≡ new')
restore-determined s old a b p q = let e = fills_one p q in (converted-one a b e.0, e.1)
