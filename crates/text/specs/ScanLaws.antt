-- What stands at a place of some bytes, what a definition reads there, and that a reader's answer is determined. Assumes nothing.
use Rattle.std.specs.Prelude.{◌≡◌, Some, None, refl, Bool, List, [], ◌∷◌, ℕ, ◌+◌, ◌≤◌, ◌<◌, length, get_or, drop}
use Rattle.std.proofs.Common.{sym, ap, ◌∙◌, arith, add-one, length-drop, drop_of_length-le, drop-cons, eq-eqb, ne_eqb}
use Rattle.std.proofs.Math.Decide.{dec_lt}
use Rattle.std.proofs.Math.ListN.{get_or-eq_default}
use Rattle.laws.specs.Pick.{pick-t, pick-f}
use Rattle.laws.specs.Decimal.{Parsed, good, bad}
use Rattle.paper.specs.Answer.{same}
use Rattle.text.specs.Scan.{Num, expect, leads, place_after, Scans, IsLeast, StandsAt, TellsDigit, ReadsNumber, ReadsField}

-- only a byte can be other than 0
pub byte_inside : (s : List ℕ) (at : ℕ) → 0 < get_or s at 0 → at < length s
byte_inside s at h =
    elim (dec_lt at (length s)) [
      | yes l ↦ l
      | no l ↦ let z : get_or s at 0 ≡ 0 = get_or-eq_default s 0 (omega arith) in absurd (omega arith)
    ]

-- what a function of the bytes from a place on gives: by the byte there, or past the end
pub from_place : (P : List ℕ → Type 0) (s : List ℕ) (at : ℕ) → (at < length s → P (get_or s at 0 ∷ drop (at + 1) s)) → (get_or s at 0 ≡ 0 → P []) → P (drop at s)
from_place P s at f g =
    elim (dec_lt at (length s)) [
      | yes l ↦ rw (drop-cons s at 0 l, ← add-one at) (f l)
      | no l ↦ rw (drop_of_length-le s {i = at} (omega arith)) (g (get_or-eq_default s 0 (omega arith)))
    ]

pub expect-hit : {X : Type 0} (s : List ℕ) (at b : ℕ) (next : List ℕ → Parsed X) → 0 < b → get_or s at 0 ≡ b → expect b (drop at s) next ≡ next (drop (at + 1) s)
unfolding expect
expect-hit s at b next h e =
    from_place (λ l. expect b l next ≡ next (drop (at + 1) s)) s at (λ l. pick-t _ _ _ (eq-eqb _ _ e)) (λ z. absurd (omega arith))

pub expect-miss : {X : Type 0} (s : List ℕ) (at b : ℕ) (next : List ℕ → Parsed X) → (get_or s at 0 ≡ b → ⊥) → expect b (drop at s) next ≡ bad
unfolding expect
expect-miss s at b next n =
    from_place (λ l. expect b l next ≡ bad) s at (λ l. pick-f _ _ _ (ne_eqb _ _ n)) (λ z. refl)

-- nothing good is nothing read
pub bad-good : {X Y : Type 0} {x : X} {rest : List ℕ} → bad ≡ good x rest → Y
bad-good e = let z : ◌≡◌ {A = ℕ} 0 1 = cc in let f : ⊥ = omega arith in absurd f

-- the bytes that follow tell the value and the place after it
pub good-one : {X : Type 0} {v w : X} (s : List ℕ) (m n : ℕ) → good v (drop m s) ≡ good w (drop n s) → m ≤ length s → n ≤ length s → (v ≡ w) × (m ≡ n)
good-one s m n e h k = let d : drop m s ≡ drop n s = cc in (cc, omega (arith, ap length d, length-drop m s, length-drop n s))

-- two results that both meet a call's contract are equal
pub least-determined : (m n : ℕ) {a b : ℕ} → IsLeast m n a → IsLeast m n b → a ≡ b
least-determined m n p q = same p q

pub byte-determined : (s : List ℕ) (at : ℕ) (a b : ℕ) → StandsAt s at a → StandsAt s at b → a ≡ b
byte-determined s at a b p q = same p q

pub digit-determined : (n : ℕ) (a b : Bool) → TellsDigit n a → TellsDigit n b → a ≡ b
digit-determined n a b p q = same p q

pub scans-determined : {s : List ℕ} {rule : Parsed ℕ} {a b : Num} → Scans s rule a → Scans s rule b → a ≡ b
scans-determined {s} {rule} {a} {b} p q = go a b (sym p.reads ∙ q.reads) p.inside q.inside
  where
    go : (a b : Num) → leads s a ≡ leads s b → place_after a ≤ length s → place_after b ≤ length s → a ≡ b
    go (Some (v, m)) (Some (w, n)) e h k = let o = good-one s m n e h k in rw (o.0, o.1)
    go (Some (v, m)) None e h k = bad-good (sym e)
    go None (Some (w, n)) e h k = bad-good e
    go None None e h k = refl

pub number-determined : (s : List ℕ) (at most : ℕ) {a b : Num} → ReadsNumber s at most a → ReadsNumber s at most b → a ≡ b
number-determined s at most p q = scans-determined p q

pub field-determined : (s : List ℕ) (at most : ℕ) {a b : Num} → ReadsField s at most a → ReadsField s at most b → a ≡ b
field-determined s at most p q = scans-determined p q
