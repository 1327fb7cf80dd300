-- Digits read from a place of some bytes on, by the byte that stands there. Assumes nothing.
use mathlib.Core.Path.{◌≡◌, refl, ◌∙◌}
use mathlib.Core.Bool.{true, false}
use mathlib.Core.List.{List}
use Prim.Native.Nat.{ℕ, ◌+◌, ◌-◌, ◌*◌, ◌≤◌, ◌<◌}
use native.Mathlib.Omega.{arith}
use lib.Dec.{ltb}
use lib.ListN.{get_or, drop}
use borrow.Author.Tests.{le-leb, lt-leb}
use Rattle.laws.specs.Pick.{pick, pick-t, pick-f}
use Rattle.laws.specs.Decimal.{Parsed, good, bad, is_digit, digits_from, number_at}
use Rattle.laws.specs.DecimalLaws.{digit-range}
use Rattle.text.specs.ScanLaws.{from_place}

-- a value that has been read so far, and what follows it
unfoldable pub onward : ℕ → ℕ → List ℕ → Parsed ℕ
onward most v l = let more = digits_from most v l in pick (ltb most v) bad more

zero-none : {X : Type 0} (b : ℕ) → b ≡ 0 → is_digit b ≡ true → X
zero-none b z e = let r = digit-range b e in let n : ⊥ = omega arith in absurd n

pub digits-digit : (most v : ℕ) (s : List ℕ) (i : ℕ) → is_digit (get_or s i 0) ≡ true → digits_from most v (drop i s) ≡ onward most (v * 10 + (get_or s i 0 - 48)) (drop (i + 1) s)
unfolding digits_from onward
digits-digit most v s i e =
    from_place (λ l. digits_from most v l ≡ onward most (v * 10 + (get_or s i 0 - 48)) (drop (i + 1) s)) s i (λ l. pick-t _ _ _ e) (λ z. zero-none (get_or s i 0) z e)

pub digits-end : (most v : ℕ) (s : List ℕ) (i : ℕ) → is_digit (get_or s i 0) ≡ false → digits_from most v (drop i s) ≡ good v (drop i s)
unfolding digits_from
digits-end most v s i e =
    from_place (λ l. digits_from most v l ≡ good v l) s i (λ l. pick-f _ _ _ e) (λ z. refl)

pub number-none : (most : ℕ) (s : List ℕ) (at : ℕ) → is_digit (get_or s at 0) ≡ false → number_at most (drop at s) ≡ bad
unfolding number_at
number-none most s at e = from_place (λ l. number_at most l ≡ bad) s at (λ l. pick-f _ _ _ e) (λ z. refl)

pub number-zero : (most : ℕ) (s : List ℕ) (at : ℕ) → is_digit (get_or s at 0) ≡ true → get_or s at 0 ≤ 48 → number_at most (drop at s) ≡ good 0 (drop (at + 1) s)
unfolding number_at
number-zero most s at e h =
    from_place (λ l. number_at most l ≡ good 0 (drop (at + 1) s)) s at (λ l. pick-t _ _ _ e ∙ pick-t _ _ _ (le-leb _ _ h)) (λ z. zero-none (get_or s at 0) z e)

pub number_digits : (most : ℕ) (s : List ℕ) (at : ℕ) → is_digit (get_or s at 0) ≡ true → 48 < get_or s at 0 → number_at most (drop at s) ≡ digits_from most 0 (drop at s)
unfolding number_at
number_digits most s at e h =
    from_place (λ l. number_at most l ≡ digits_from most 0 l) s at (λ l. pick-t _ _ _ e ∙ pick-f _ _ _ (lt-leb _ _ h)) (λ z. zero-none (get_or s at 0) z e)
