use mathlib.Core.Path.{◌≡◌, sym, ap, ◌∙◌}
use mathlib.Core.List.{List}
use Prim.Native.Nat.{ℕ, suc, ◌+◌, ◌-◌, ◌≤◌, ◌<◌}
use native.Mathlib.Omega.{arith}
use lib.ListN.{drop, set, replicate, length-set}
use Rattle.laws.specs.Decimal.{good}
use Rattle.text.specs.Scan.{on_good, field_at}
use Rattle.operands.specs.Parsing.{on-good, on-bad, num}
use Rattle.calls.specs.Call.{greatest32, row_from, numbers_field}
use Rattle.calls.specs.Reading.{leads_row}
use borrow.Author.Rules.{rules}
use Rattle.calls.proofs.fields.numbers_at.Goals as goal

-- those that are left give the whole: none are, or the next and those behind it
module _ (s : List ℕ) (at n : ℕ) (row : List ℕ) (k p : ℕ) (left : row_from row k (n - k) (drop p s) ≡ numbers_field n (drop at s)) where
  all : n ≤ k → numbers_field n (drop at s) ≡ good row (drop p s)
  unfolding row_from
  all h = let z : n - k ≡ 0 = omega arith in sym left ∙ ap (λ (m : ℕ). row_from row k m (drop p s)) z

  next_of : k < n → on_good (field_at greatest32 (drop p s)) (λ v rest. row_from (set row k v) (k + 1) (n - (k + 1)) rest) ≡ numbers_field n (drop at s)
  unfolding row_from
  next_of h = let e : n - k ≡ suc (n - (k + 1)) = omega arith in rw e at left

pub loop-k-init : goal.loop-k-init
unfolding numbers_field
loop-k-init c =
    let a = c.args in
    let z : a.n - 0 ≡ a.n = omega arith in
    (search rules, ap (λ (m : ℕ). row_from (replicate 19 0) 0 m (drop a.at a.s.now)) z)

pub returns-in_err-v : goal.returns-in_err-v
returns-in_err-v c =
    let a = c.args in
    let h = c.loop-k in
    record { reads = sym (next_of a.s.now a.at a.n h.values h.k h.p h.invariant.1 c.loop-k-test.true) ∙ on-bad _ (num c.field_at.ensures c.in_err-v.was) ∙ ap (leads_row a.s.now) (sym c.from_residual.ensures) }

pub loop-k-preserved : goal.loop-k-preserved
loop-k-preserved c =
    let a = c.args in
    let h = c.loop-k in
    let t = c.loop-k-test.true in
    (length-set h.values h.k _ ∙ h.invariant.0, sym (on-good _ (num c.field_at.ensures c.in_ok-v.was)) ∙ next_of a.s.now a.at a.n h.values h.k h.p h.invariant.1 t)

pub returns : goal.returns
returns c =
    let a = c.args in
    let h = c.loop-k in
    record { reads = all a.s.now a.at a.n h.values h.k h.p h.invariant.1 c.loop-k-test.false }
