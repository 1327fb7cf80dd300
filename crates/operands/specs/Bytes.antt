-- The bytes of a line: its first field, two digits a byte. Assumes nothing.
use Rattle.std.specs.Prelude.{◌≡◌, refl, Bool, true, false, ◌&&◌, ◌||◌, ℕ, zero, suc, ◌+◌, ◌-◌, ◌*◌, ◌≤◌, ◌<◌, leb, length}
use Rattle.std.proofs.Common.{sym, ◌∙◌, subst, drop_of_length-le}
use Rattle.std.proofs.Math.Path.{ap}
use mathlib.Core.List.{List, [], ◌∷◌}
use native.Mathlib.Omega.{arith}
use Rattle.std.proofs.Math.Decide.{dec_lt}
use Rattle.std.proofs.Math.ListN.{get_or, drop}
use Rattle.laws.specs.Pick.{pick, pick-t, pick-f, pick-if}
use Rattle.laws.specs.Bools.{and_left, and_right}
use Rattle.laws.specs.Decimal.{is_digit}
use Rattle.paper.specs.Answer.{same}
use Rattle.text.specs.ScanLaws.{from_place}
use Rattle.operands.specs.Parsing.{from_byte}

-- 0..9 and A..F
unfoldable pub is_hex : ℕ → Bool
is_hex b = is_digit b || (leb 65 b && leb b 70)

unfoldable pub hex_value : ℕ → ℕ
hex_value b = pick (is_digit b) (b - 48) (b - 55)

-- the byte of two digits
unfoldable pub two : ℕ → ℕ → ℕ
two a b = hex_value a * 16 + hex_value b

-- the bytes before the first place where no two digits stand
unfoldable pub leading_bytes : List ℕ → List ℕ
leading_bytes [] = []
leading_bytes (a ∷ []) = []
leading_bytes (a ∷ b ∷ l) = let more = two a b ∷ leading_bytes l in pick (is_hex a && is_hex b) more []

-- behind the letter and the tab
unfoldable pub carried : List ℕ → List ℕ
carried s = leading_bytes (drop 2 s)

-- how many bytes stand at a place
abbrev pub standing : List ℕ → ℕ → ℕ
standing s p = length (leading_bytes (drop p s))

-- what the result of `count` has to meet, and that two which do are equal
abbrev pub CountsBytes : List ℕ → ℕ → Type 0
CountsBytes s r = r ≡ length (carried s)

pub count-determined : (s : List ℕ) {a b : ℕ} → CountsBytes s a → CountsBytes s b → a ≡ b
count-determined s p q = same p q

-- ---- the bytes that stand at a place, by the two digits there

module _ (s : List ℕ) (p : ℕ) where
  pub lead-end : length s ≤ p + 1 → leading_bytes (drop p s) ≡ []
  unfolding leading_bytes
  lead-end h =
      from_place (λ l. leading_bytes l ≡ []) s p (λ i. ap (λ (r : List ℕ). leading_bytes (get_or s p 0 ∷ r)) (drop_of_length-le s {i = p + 1} h)) (λ z. refl)

  lead_is : p + 1 < length s → leading_bytes (drop p s) ≡ pick (is_hex (get_or s p 0) && is_hex (get_or s (p + 1) 0)) (two (get_or s p 0) (get_or s (p + 1) 0) ∷ leading_bytes (drop (p + 2) s)) []
  unfolding leading_bytes
  lead_is h =
      let z : p + 1 + 1 ≡ p + 2 = omega arith in
      ap leading_bytes (from_byte s p (omega arith) ∙ ap (λ (r : List ℕ). get_or s p 0 ∷ r) (from_byte s (p + 1) h ∙ ap (λ (i : ℕ). get_or s (p + 1) 0 ∷ drop i s) z))

  pub lead-two : p + 1 < length s → is_hex (get_or s p 0) ≡ true → is_hex (get_or s (p + 1) 0) ≡ true → standing s p ≡ suc (standing s (p + 2))
  lead-two h e f = ap length (lead_is h ∙ pick-t _ _ _ (ap (λ (t : Bool). t && is_hex (get_or s (p + 1) 0)) e ∙ f))

  pub lead-none : p + 1 < length s → (is_hex (get_or s p 0) && is_hex (get_or s (p + 1) 0)) ≡ false → standing s p ≡ 0
  lead-none h e = ap length (lead_is h ∙ pick-f _ _ _ e)

-- ---- the k-th of them

-- two digits stand at place q, and are the byte v
pub record Digits (s : List ℕ) (q v : ℕ) : Type 0 where
  pub inside : q + 1 < length s
  pub high : is_hex (get_or s q 0) ≡ true
  pub low : is_hex (get_or s (q + 1) 0) ≡ true
  pub value : v ≡ two (get_or s q 0) (get_or s (q + 1) 0)

digits-first : (s : List ℕ) (p : ℕ) → 0 < standing s p
    → Digits s p (two (get_or s p 0) (get_or s (p + 1) 0)) × (leading_bytes (drop p s) ≡ two (get_or s p 0) (get_or s (p + 1) 0) ∷ leading_bytes (drop (p + 2) s))
digits-first s p h =
    let v = two (get_or s p 0) (get_or s (p + 1) 0) in
    let P : List ℕ → Type 0 = λ r. 0 < length r → Digits s p v × (r ≡ v ∷ leading_bytes (drop (p + 2) s)) in
    elim (dec_lt (p + 1) (length s)) [
      | yes l ↦ subst P (sym (lead_is s p l)) (pick-if P _ (λ e k. (record { inside = l; high = and_left _ (is_hex (get_or s (p + 1) 0)) e; low = and_right (is_hex (get_or s p 0)) _ e; value = refl }, refl)) (λ e k. absurd (omega arith))) h
      | no l ↦ absurd (omega (arith, ap length (lead-end s p (omega arith))))
    ]

pub digits-at : (k : ℕ) (s : List ℕ) (p : ℕ) → k < standing s p → Digits s (p + 2 * k) (get_or (leading_bytes (drop p s)) k 0)
digits-at zero s p h = let f = digits-first s p h in let z : p + 2 * 0 ≡ p = omega arith in rw (z, f.1) f.0
digits-at (suc k) s p h =
    let f = digits-first s p (omega arith) in
    let z : p + 2 * suc k ≡ p + 2 + 2 * k = omega arith in
    rw (z, f.1) (digits-at k s (p + 2) (omega (arith, ap length f.1)))

-- at most half of the line's bytes
pub carried-half : (s : List ℕ) → 2 * length (carried s) ≤ length s
unfolding carried
carried-half s =
    elim (dec_lt 0 (standing s 2)) [
      | yes l ↦ omega (arith, (digits-at (standing s 2 - 1) s 2 (omega arith)).inside)
      | no l ↦ omega arith
    ]
