use mathlib.Core.Path.{◌≡◌, sym, ap, ◌∙◌}
use mathlib.Core.Bool.{true}
use mathlib.Core.List.{List}
use Prim.Native.Nat.{ℕ, ◌+◌, ◌*◌, ◌-◌, ◌≤◌, ◌<◌}
use native.Mathlib.Omega.{arith}
use lib.ListN.{length, get_or, drop}
use borrow.Author.Tests.{lt-ltb, le-ltb}
use Rattle.laws.specs.Pick.{pick-t, pick-f}
use Rattle.laws.specs.Decimal.{is_digit}
use Rattle.laws.specs.DecimalLaws.{digit-range}
use Rattle.text.specs.ScanLaws.{byte_inside}
use Rattle.text.proofs.Scanning.{onward, digits-digit, digits-end, number-none, number-zero, number_digits}
use Rattle.text.proofs.number_at.Goals as goal
use Rattle.text.proofs.number_at.Goals.{Else-not-is_digit, Else-not-is_digit-2}

-- the first byte: a digit, and so one of the bytes
begins : (c : Else-not-is_digit) → is_digit c.byte_at-first.result ≡ true
begins c = sym c.is_digit.ensures ∙ c.if-not-is_digit.false

abbrev S : Else-not-is_digit → List ℕ
S c = c.args.s.now

abbrev place : Else-not-is_digit → ℕ
place c = c.args.at

inside : (c : Else-not-is_digit) → place c < length (S c)
inside c =
    let r = digit-range _ (begins c) in
    let e = c.byte_at-first.ensures in
    byte_inside (S c) (place c) (omega arith)

-- a byte on the way
digit : (c : Else-not-is_digit-2) → is_digit c.byte_at-b.result ≡ true
digit c = sym c.is_digit-in-loop-v.ensures ∙ c.if-not-is_digit-2.false

within : (c : Else-not-is_digit-2) → c.loop-v.i < length c.args.s.now
within c =
    let r = digit-range _ (digit c) in
    let e = c.byte_at-b.ensures in
    byte_inside c.args.s.now c.loop-v.i (omega arith)

pub returns-then-not-is_digit : goal.returns-then-not-is_digit
returns-then-not-is_digit c =
    let s = c.args.s.now in
    let at = c.args.at in
    let n = sym c.is_digit.ensures ∙ c.if-not-is_digit.true in
    record { reads = number-none _ s at (ap is_digit (sym c.byte_at-first.ensures) ∙ n); inside = omega arith }

pub overflow_add-result : goal.overflow_add-result
overflow_add-result c = let l = inside (goal.at.overflow_add-result c).Else-not-is_digit in omega arith

pub returns-then-first-le48 : goal.returns-then-first-le48
returns-then-first-le48 c =
    let e = c.byte_at-first.ensures in
    let l = inside (goal.at.returns-then-first-le48 c).Else-not-is_digit in
    let z : get_or (S (goal.at.returns-then-first-le48 c).Else-not-is_digit) (place (goal.at.returns-then-first-le48 c).Else-not-is_digit) 0 ≤ 48 = omega arith in
    record { reads = number-zero _ (S (goal.at.returns-then-first-le48 c).Else-not-is_digit) (place (goal.at.returns-then-first-le48 c).Else-not-is_digit) (ap is_digit (sym e) ∙ begins (goal.at.returns-then-first-le48 c).Else-not-is_digit) z; inside = omega arith }

pub overflow_cast-v : goal.overflow_cast-v
overflow_cast-v c = let r = digit-range _ (begins (goal.at.overflow_cast-v c).Else-not-is_digit) in omega arith

pub overflow_add-i : goal.overflow_add-i
overflow_add-i c = let l = inside (goal.at.overflow_add-i c).Else-not-is_digit in omega arith

pub loop-v-init : goal.loop-v-init
loop-v-init c =
    let r = digit-range _ (begins (goal.at.loop-v-init c).Else-not-is_digit) in
    let e = c.byte_at-first.ensures in
    let l = inside (goal.at.loop-v-init c).Else-not-is_digit in
    let d = ap is_digit (sym e) ∙ begins (goal.at.loop-v-init c).Else-not-is_digit in
    let s = S (goal.at.loop-v-init c).Else-not-is_digit in
    let at = place (goal.at.loop-v-init c).Else-not-is_digit in
    let m = c.args.most in
    let z : 48 < get_or s at 0 = omega arith in
    let q : 0 * 10 + (get_or s at 0 - 48) ≡ c.byte_at-first.result - 48 = omega arith in
    (omega arith, omega arith, number_digits m s at d z ∙ digits-digit m 0 s at d ∙ ap (λ (v : ℕ). onward m v (drop (at + 1) s)) q)

pub returns-then-not-is_digit-2 : goal.returns-then-not-is_digit-2
unfolding onward
returns-then-not-is_digit-2 c =
    let n = sym c.is_digit-in-loop-v.ensures ∙ c.if-not-is_digit-2.true in
    let d = ap is_digit (sym c.byte_at-b.ensures) ∙ n in
    let h = c.loop-v in
    record { reads = h.invariant.2 ∙ pick-f _ _ _ (le-ltb _ _ c.loop-v-test.true) ∙ digits-end _ _ (S (goal.at.returns-then-not-is_digit-2 c).Else-not-is_digit) h.i d; inside = h.invariant.0 }

pub overflow_sub-v-in-loop-v : goal.overflow_sub-v-in-loop-v
overflow_sub-v-in-loop-v c = let r = digit-range _ (digit c) in omega arith

pub overflow_cast-v-in-loop-v : goal.overflow_cast-v-in-loop-v
overflow_cast-v-in-loop-v c = let r = digit-range _ (digit c) in omega arith

pub overflow_add-v : goal.overflow_add-v
overflow_add-v c = let r = digit-range _ (digit c) in omega arith

pub overflow_add-i-in-loop-v : goal.overflow_add-i-in-loop-v
overflow_add-i-in-loop-v c = let l = within c in omega arith

pub loop-v-smaller : goal.loop-v-smaller
loop-v-smaller c = let l = within c in omega arith

pub loop-v-preserved : goal.loop-v-preserved
unfolding onward
loop-v-preserved c =
    let r = digit-range _ (digit c) in
    let e = c.byte_at-b.ensures in
    let l = within c in
    let h = c.loop-v in
    let s = c.args.s.now in
    let m = c.args.most in
    let d = ap is_digit (sym e) ∙ digit c in (
      omega arith,
      omega arith,
      h.invariant.2 ∙ pick-f _ _ _ (le-ltb _ _ c.loop-v-test.true) ∙ digits-digit m h.v s h.i d ∙ ap (λ (b : ℕ). onward m (h.v * 10 + (b - 48)) (drop (h.i + 1) s)) (sym e),
    )

pub returns : goal.returns
unfolding onward
returns c = record { reads = c.loop-v.invariant.2 ∙ pick-t _ _ _ (lt-ltb _ _ c.loop-v-test.false); inside = omega arith }
