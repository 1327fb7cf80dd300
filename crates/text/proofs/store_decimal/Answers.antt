use native.Mathlib.Omega.{arith}
use native.Mathlib.Decide.{dec_lt}
use mathlib.Core.Path.{◌≡◌, refl, ap, ◌∙◌}
use mathlib.Core.List.{[], ◌∷◌}
use Prim.Native.Nat.{ℕ, ◌+◌, ◌-◌, ◌/◌, ◌≤◌, ◌<◌}
use lib.ListN.{length, length-set}
use Rattle.laws.specs.Decimal.{decimal}
use Rattle.laws.specs.DecimalLaws.{decimal-small, decimal_step, decimal-more, decimal-some}
use Rattle.text.proofs.Laws.{store-last}
use Rattle.text.proofs.store_decimal.Goals as goal

-- a number of two digits or more is 10 or more, and one of one digit is not
many : (v : ℕ) → 1 < length (decimal v) → 10 ≤ v
many v h =
    elim (dec_lt v 10) [
      | yes l ↦ absurd (omega (arith, ap length (decimal-small v l)))
      | no l ↦ omega arith
    ]

one : (v : ℕ) → length (decimal v) ≡ 1 → v < 10
one v h =
    elim (dec_lt v 10) [
      | yes l ↦ l
      | no l ↦ absurd (omega (arith, decimal-more v (omega arith), decimal-some (v / 10)))
    ]

pub loop-p-init : goal.loop-p-init
loop-p-init c = (refl, λ h. (omega arith, refl), λ h. absurd (omega (arith, decimal-some c.args.n)))

pub loop-p-preserved : goal.loop-p-preserved
loop-p-preserved c =
    let at = c.args.at in
    let s = c.loop-p in
    let left = s.invariant.1 c.loop-p-test.true in (
      simp length-set s.invariant.0,
      λ h.
          let m = many s.v (omega (arith, left.0)) in
          let n = decimal-more s.v m in
          (omega (arith, left.0), store-last s.out at (s.p - 1) _ _ (decimal (s.v / 10)) _ (decimal_step s.v m) (omega (arith, left.0)) left.1),
      λ h.
          let l = one s.v (omega (arith, left.0)) in
          let d = decimal-small s.v l in
          store-last s.out at (s.p - 1) _ _ [] _ (d ∙ ap (λ (k : ℕ). (48 + k) ∷ []) (omega arith)) (omega arith) left.1,
    )

pub returns : goal.returns
returns c = c.loop-p.invariant.2 (omega (arith, c.loop-p-test.false))
