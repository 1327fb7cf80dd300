use mathlib.Core.Path.{◌≡◌, refl, sym, ap, ◌∙◌, subst}
use mathlib.Core.List.{List}
use Prim.Native.Nat.{ℕ, zero, suc, ◌+◌, ◌≤◌}
use native.Mathlib.Omega.{arith}
use lib.IntN.{ℤ, pos, ◌-ℤ◌, neg_ℤ, +ℤ_idl}
use lib.ListN.{get_or, drop}
use borrow.Author.Tests.{eq-eqb, ne_eqb}
use mir.Syntax.{w32, w64}
use mir.Val.{to_z, of_z, SFits}
use mir.Facts.{to_z-of_z, to_z_pos}
use Rattle.laws.specs.Pick.{pick-t, pick-f}
use Rattle.laws.specs.Whole.{fits64, abs_neg, fits32}
use Rattle.laws.specs.Decimal.{Parsed, good, bad, number_at}
use Rattle.laws.specs.DecimalLaws.{number-only}
use Rattle.text.specs.Scan.{Num, TAB, place_after, Scans}
use Rattle.text.specs.ScanLaws.{byte_inside, from_place, expect-hit, expect-miss}
use Rattle.std.specs.Prelude.{Some, None}
use Rattle.operands.specs.Parsing.{from_byte, num, good-as}
use Rattle.operands.specs.Numbers.{minus, plus, signed_at, signed_field, Signed, ReadsSigned}
use Rattle.operands.proofs.signed_at.Goals as goal
use Rattle.operands.proofs.signed_at.Goals.{Else-byte_at-ne-MINUS, Else-v-eq0, In_ok-v, Then-byte_at-ne-MINUS}

-- a number below 0 that an i32 holds, by way of an i64
minus-fits : (n : ℕ) → 1 ≤ n → n ≤ 2147483648 → SFits w32 (neg_ℤ (pos n))
minus-fits zero h k = absurd (omega arith)
minus-fits (suc n) h k = record { sfits = omega arith }

minus-some : (n : ℕ) (rest : List ℕ) → 1 ≤ n → minus (good n rest) ≡ good (neg_ℤ (pos n)) rest
unfolding minus
minus-some zero rest h = absurd (omega arith)
minus-some (suc n) rest h = refl

-- ---- the reader's answer

none : (s : List ℕ) (at : ℕ) → signed_field (drop at s) ≡ bad → ReadsSigned s at None
none s at e = record { reads = e; inside = omega arith }

passed : (s : List ℕ) (at : ℕ) {r : Signed} → r ≡ None → signed_field (drop at s) ≡ bad → ReadsSigned s at r
passed s at e f = subst (ReadsSigned s at) (sym e) (none s at f)

-- a number that was read there
found : {s : List ℕ} (at : ℕ) {rule : Parsed ℕ} {r : Num} {v next : ℕ} {x : ℤ} → Scans s rule r → r ≡ Some (v, next) → signed_field (drop at s) ≡ good x (drop next s) → ReadsSigned s at (Some (x, next))
found at y e f = record { reads = f; inside = omega (arith, y.inside, ap place_after e) }

-- ---- the places of the code

module _ (v : ℕ) (some : 1 ≤ v) (most : v ≤ 2147483648) where
  away : pos 0 -ℤ to_z w64 v ≡ neg_ℤ (pos v)
  away = rw (to_z_pos w64 {n = v} (omega arith)) (+ℤ_idl (neg_ℤ (pos v)))

  away-fits : SFits w64 (pos 0 -ℤ to_z w64 v)
  away-fits = rw away (fits64 (neg_ℤ (pos v)) (omega (arith, abs_neg (pos v))))

  narrow : to_z w64 (of_z w64 (pos 0 -ℤ to_z w64 v)) ≡ neg_ℤ (pos v)
  narrow = to_z-of_z away-fits ∙ away

  narrow-fits : SFits w32 (to_z w64 (of_z w64 (pos 0 -ℤ to_z w64 v)))
  narrow-fits = rw narrow (minus-fits v some most)

  below : to_z w32 (of_z w32 (to_z w64 (of_z w64 (pos 0 -ℤ to_z w64 v)))) ≡ neg_ℤ (pos v)
  below = to_z-of_z narrow-fits ∙ narrow

-- b is the byte at a place, and c the one behind it
module _ (s : List ℕ) (at : ℕ) {b c : ℕ} (here : b ≡ get_or s at 0) (tab : b ≡ TAB) (next : c ≡ get_or s (at + 1) 0) where
  signed-minus : c ≡ 45 → signed_field (drop at s) ≡ minus (number_at 2147483648 (drop (at + 2) s))
  unfolding signed_field signed_at
  signed-minus e =
      let z : at + 1 + 1 ≡ at + 2 = omega arith in
      expect-hit s at TAB signed_at (omega arith) (sym here ∙ tab)
      ∙ ap signed_at (from_byte s (at + 1) (byte_inside s (at + 1) (omega arith)))
      ∙ pick-t _ _ _ (eq-eqb _ _ (sym next ∙ e))
      ∙ ap (λ (i : ℕ). minus (number_at 2147483648 (drop i s))) z

  signed-plus : (c ≡ 45 → ⊥) → signed_field (drop at s) ≡ plus (number_at 2147483647 (drop (at + 1) s))
  unfolding signed_field signed_at number_at plus
  signed-plus n =
      expect-hit s at TAB signed_at (omega arith) (sym here ∙ tab)
      ∙ from_place (λ l. signed_at l ≡ plus (number_at 2147483647 l)) s (at + 1) (λ l. pick-f _ _ _ (ne_eqb _ _ (λ e. n (next ∙ e)))) (λ z. refl)

-- without a minus
plus-rule : (c : Then-byte_at-ne-MINUS) → signed_field (drop c.args.at c.args.s.now) ≡ plus (number_at 2147483647 (drop (c.args.at + 1) c.args.s.now))
plus-rule c = let a = c.args in signed-plus a.s.now a.at c.byte_at.ensures c.if-byte_at-ne-TAB.false c.byte_at-2.ensures c.if-byte_at-ne-MINUS.true

-- with one
minus-rule : (c : Else-byte_at-ne-MINUS) → signed_field (drop c.args.at c.args.s.now) ≡ minus (number_at 2147483648 (drop (c.args.at + 2) c.args.s.now))
minus-rule c = let a = c.args in signed-minus a.s.now a.at c.byte_at.ensures c.if-byte_at-ne-TAB.false c.byte_at-2.ensures c.if-byte_at-ne-MINUS.false

high : (c : In_ok-v) → c.in_ok-v.v ≤ 2147483647
high c = omega (arith, (number-only _ _ _ _ (num c.number_at.ensures c.in_ok-v.was)).1)

low : (c : Else-v-eq0) → c.in_ok-v-2.v ≤ 2147483648
low c = omega (arith, (number-only _ _ _ _ (num c.number_at-2.ensures c.in_ok-v-2.was)).1)

some : (c : Else-v-eq0) → 1 ≤ c.in_ok-v-2.v
some c = let h = c.if-v-eq0.false in omega arith

pub returns-then-byte_at-ne-MINUS : goal.returns-then-byte_at-ne-MINUS
unfolding plus
returns-then-byte_at-ne-MINUS c =
    let read = c.number_at.ensures in
    found _ read c.in_ok-v.was (plus-rule (goal.at.returns-then-byte_at-ne-MINUS c).Then-byte_at-ne-MINUS ∙ ap plus (num read c.in_ok-v.was) ∙ good-as (sym (to_z_pos w32 {n = c.in_ok-v.v} (omega (arith, high (goal.at.returns-then-byte_at-ne-MINUS c).In_ok-v)))))

pub returns-then-byte_at-ne-TAB : goal.returns-then-byte_at-ne-TAB
unfolding signed_field
returns-then-byte_at-ne-TAB c = none _ _ (expect-miss c.args.s.now c.args.at TAB signed_at (λ h. c.if-byte_at-ne-TAB.true (c.byte_at.ensures ∙ h)))

pub returns-in_err-v : goal.returns-in_err-v
unfolding plus
returns-in_err-v c = passed _ _ c.from_residual.ensures (plus-rule (goal.at.returns-in_err-v c).Then-byte_at-ne-MINUS ∙ ap plus (num c.number_at.ensures c.in_err-v.was))

pub overflow_cast-result : goal.overflow_cast-result
overflow_cast-result c = fits32 (pos c.in_ok-v.v) (omega (arith, high (goal.at.overflow_cast-result c).In_ok-v))

pub returns-in_err-v-2 : goal.returns-in_err-v-2
unfolding minus
returns-in_err-v-2 c =
    passed _ _ c.from_residual-in_err-v-2.ensures (minus-rule (goal.at.returns-in_err-v-2 c).Else-byte_at-ne-MINUS ∙ ap minus (num c.number_at-2.ensures c.in_err-v-2.was))

pub returns-then-v-eq0 : goal.returns-then-v-eq0
unfolding minus
returns-then-v-eq0 c =
    let v = c.in_ok-v-2 in
    let rest = drop v.next c.args.s.now in
    none _ _ (minus-rule (goal.at.returns-then-v-eq0 c).Else-byte_at-ne-MINUS ∙ ap minus (num c.number_at-2.ensures v.was) ∙ ap (λ (n : ℕ). minus (good n rest)) c.if-v-eq0.true)

pub overflow_cast-result-3 : goal.overflow_cast-result-3
overflow_cast-result-3 c = let e = (goal.at.overflow_cast-result-3 c).Else-v-eq0 in narrow-fits _ (some e) (low e)

pub returns : goal.returns
returns c =
    let read = c.number_at-2.ensures in
    let v = c.in_ok-v-2 in
    let e = (goal.at.returns c).Else-v-eq0 in
    found _ read v.was (minus-rule (goal.at.returns c).Else-byte_at-ne-MINUS ∙ ap minus (num read v.was) ∙ minus-some _ _ (some e) ∙ good-as (sym (below _ (some e) (low e))))
