-- Bytes written over the start of a lent buffer, and runs of stores. Assumes nothing.
use Rattle.std.specs.Prelude.{◌≡◌, List, [], ◌∷◌, ◌++◌, ℕ, suc, ◌+◌, ◌≤◌, length, set, drop}
use Rattle.std.proofs.Common.{ap, ◌∙◌, add-suc, add-zero, zero-add, suc-add}
use Rattle.std.proofs.lemmas.List.Edits.{sets, sets-eq}

-- An accepted call writes only the bytes of its answer, from the buffer's start
unfoldable pub over : List ℕ → List ℕ → List ℕ
over bytes old = bytes ++ drop (length bytes) old

-- a run of stores is two runs, one after the other
pub sets-append : (l : List ℕ) (i : ℕ) (xs ys : List ℕ) → sets l i (xs ++ ys) ≡ sets (sets l i xs) (i + length xs) ys
sets-append l i [] ys = rw add-zero
sets-append l i (x ∷ xs) ys = sets-append (set l i x) (suc i) xs ys ∙ rw (add-suc, suc-add)

-- stores from the start leave the bytes and what follows them
pub sets_over : (o bytes : List ℕ) → length bytes ≤ length o → sets o 0 bytes ≡ over bytes o
unfolding over
sets_over o bytes h = sets-eq bytes o 0 (rw zero-add h) ∙ ap (λ (n : ℕ). bytes ++ drop n o) (zero-add (length bytes))
