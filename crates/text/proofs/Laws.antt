-- A text stored from its last byte to its first. Assumes nothing.
use mathlib.Core.Path.{◌≡◌, refl, sym, ap, ◌∙◌}
use mathlib.Core.Bool.{Bool}
use mathlib.Core.List.{List, [], ◌∷◌, ◌++◌}
use Prim.Native.Nat.{ℕ, zero, suc, ◌+◌, ◌-◌, ◌/◌, ◌%◌, ◌≤◌, ◌<◌}
use native.Mathlib.Decide.{dec_lt}
use native.Mathlib.Omega.{arith}
use lib.Dec.{leb}
use lib.ListN.{length, set}
use lib.Seq.{sets, set_comm}
use borrow.Author.Tests.{le-leb, lt-leb}
use Rattle.laws.specs.Pick.{so}
use Rattle.laws.specs.Decimal.{glyph, hex_of}
use Rattle.text.specs.Put.{has_room}

-- the last store of a run may come first
sets_last : (l : List ℕ) (i : ℕ) (xs : List ℕ) (d : ℕ) → sets l i (xs ++ d ∷ []) ≡ sets (set l (i + length xs) d) i xs
sets_last l i [] d = ap (λ (k : ℕ). set l k d) (omega arith)
sets_last l i (x ∷ xs) d =
    let e : suc i + length xs ≡ i + suc (length xs) = omega arith in
    sets_last (set l i x) (suc i) xs d
    ∙ ap (λ (k : ℕ). sets (set (set l i x) k d) (suc i) xs) e
    ∙ ap (λ (m : List ℕ). sets m (suc i) xs) (set_comm l i (i + suc (length xs)) x d (omega arith))

-- what is left to store after the last byte of a text gives the same whole
pub store-last : (l : List ℕ) (at p d : ℕ) (text high whole : List ℕ) → text ≡ high ++ d ∷ [] → p ≡ at + length high → sets l at text ≡ whole → sets (set l p d) at high ≡ whole
store-last l at p d text high whole e f h =
    ap (λ (k : ℕ). sets (set l k d) at high) f ∙ sym (sets_last l at high d) ∙ ap (sets l at) (sym e) ∙ h

pub hex-step : (k n : ℕ) → 0 < k → hex_of k n ≡ hex_of (k - 1) (n / 16) ++ glyph (n % 16) ∷ []
unfolding hex_of
hex-step zero n h = absurd (omega arith)
hex-step (suc k) n h = let e : k ≡ suc k - 1 = omega arith in ap (λ (j : ℕ). hex_of j (n / 16) ++ glyph (n % 16) ∷ []) e

pub hex-none : (n : ℕ) → hex_of 0 n ≡ []
unfolding hex_of
hex-none n = refl

-- room tested by subtraction
pub room-left : (at k len : ℕ) → at ≤ len → leb k (len - at) ≡ leb (at + k) len
room-left at k len h = go (dec_lt len (at + k))
  where
    go : Dec (len < at + k) → leb k (len - at) ≡ leb (at + k) len
    go (yes l) = lt-leb k (len - at) (omega arith) ∙ sym (lt-leb (at + k) len l)
    go (no l) = le-leb k (len - at) (omega arith) ∙ sym (le-leb (at + k) len (omega arith))

-- what a test for room tells of a text of k bytes
pub room-told : (old : List ℕ) (at : ℕ) (text : List ℕ) (k : ℕ) {r b : Bool} → k ≡ length text → r ≡ leb (at + k) (length old) → r ≡ b → has_room old at text ≡ b
unfolding has_room
room-told old at text k e f h = ap (λ (j : ℕ). leb (at + j) (length old)) (sym e) ∙ so f h
