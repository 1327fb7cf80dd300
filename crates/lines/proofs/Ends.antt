-- Where a line ends, from one place on and from a later one. Assumes nothing.
use mathlib.Core.Path.{◌≡◌, ap, ◌∙◌}
use mathlib.Core.List.{List}
use Prim.Native.Nat.{ℕ, suc, ◌+◌, ◌≤◌, ◌<◌, max}
use native.Mathlib.Omega.{arith}
use native.Mathlib.Decide.{dec_lt}
use lib.ListN.{length, get_or, drop, drop_of_length-le}
use lib.Seq.{drop-cons}
use borrow.Author.Tests.{eq-eqb, ne_eqb}
use Rattle.laws.specs.Pick.{pick-t, pick-f}
use Rattle.text.specs.Scan.{LF}
use Rattle.lines.specs.Places.{plain_length, end_of}

-- nothing is left, an LF stands there, or another byte
pub end-past : (block : List ℕ) (i : ℕ) → length block ≤ i → i ≡ end_of block i
unfolding end_of plain_length
end-past block i h = omega (arith, ap plain_length (drop_of_length-le block {i = i} h))

pub end-here : (block : List ℕ) (i : ℕ) → i < length block → get_or block i 0 ≡ LF → i ≡ end_of block i
unfolding end_of plain_length
end-here block i h e = omega (arith, ap plain_length (drop-cons block i 0 h) ∙ pick-t _ _ _ (eq-eqb _ _ e))

pub end_on : (block : List ℕ) (i : ℕ) → i < length block → (get_or block i 0 ≡ LF → ⊥) → end_of block (i + 1) ≡ end_of block i
unfolding end_of plain_length
end_on block i h n =
    let next : suc i ≡ i + 1 = omega arith in
    omega (arith, ap plain_length (drop-cons block i 0 h) ∙ pick-f _ _ _ (ne_eqb _ _ n), ap (λ (k : ℕ). plain_length (drop k block)) next)

-- no LF stands before the end
pub end_all : (block : List ℕ) (at i : ℕ) → length block ≤ i → (at ≤ length block → i ≤ length block) → end_of block i ≡ end_of block at → max at (length block) ≡ end_of block at
end_all block at i h k e =
    elim (dec_lt at (length block)) [
      | yes l ↦ let m : max at (length block) ≡ i = omega arith in m ∙ end-past block i h ∙ e
      | no l ↦ let m : max at (length block) ≡ at = omega arith in m ∙ end-past block at (omega arith)
    ]
