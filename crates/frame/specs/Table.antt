-- The check by a table: what a zero byte leaves of each state. Assumes nothing.
use Rattle.std.specs.Prelude.{◌≡◌, List, [], ◌∷◌, ℕ, zero, suc, ◌+◌, ◌<◌, get_or}
use Rattle.std.proofs.Common.{sym, ap, ◌∙◌, not-suc-le-zero, le_of_suc-le-suc, add-zero, zero-add, add-suc, suc-add}
use Rattle.std.specs.Int.Bits.{bit_xor}
use Rattle.frame.specs.Check.{enter}
use Rattle.frame.specs.Linear.{enter-xor}

-- what a zero byte leaves of the n states from s on
unfoldable pub entries : ℕ → ℕ → List ℕ
entries zero s = []
entries (suc n) s = enter s 0 ∷ entries n (suc s)

entry : (n s i : ℕ) → i < n → get_or (entries n s) i 0 ≡ enter (s + i) 0
unfolding entries
entry zero s i h = absurd (not-suc-le-zero h)
entry (suc n) s zero h = rw add-zero
entry (suc n) s (suc i) h = entry n (suc s) i (le_of_suc-le-suc h) ∙ rw (add-suc, suc-add)

pub by-table : (s x : ℕ) → s < 256 → x < 256 → bit_xor (get_or (entries 256 0) s 0) x ≡ enter s x
by-table s x h k = ap (λ (t : ℕ). bit_xor t x) (rw zero-add at (entry 256 0 s h)) ∙ sym (enter-xor s x k)
