use mathlib.Core.Path.{◌≡◌, sym, ap, ◌∙◌}
use mathlib.Core.List.{List, [], ◌∷◌}
use Prim.Native.Nat.{ℕ, ◌+◌, ◌<◌}
use native.Mathlib.Omega.{arith}
use native.Mathlib.Numerals.{add-one}
use lib.ListN.{length, get_or, take, set, length-set}
use lib.Seq.{sets, take-suc, length-take-le}
use Rattle.laws.specs.Over.{sets-append}
use Rattle.operands.specs.Bytes.{carried}
use Rattle.calls.proofs.fields.store.Goals as goal

-- one byte more is stored
store-more : (old bytes : List ℕ) (k : ℕ) → k < length bytes → set (sets old 0 (take k bytes)) k (get_or bytes k 0) ≡ sets old 0 (take (k + 1) bytes)
store-more old bytes k h =
    let z : 0 + length (take k bytes) ≡ k = omega (arith, length-take-le k bytes (omega arith)) in
    sym
    (ap (λ (i : ℕ). sets old 0 (take i bytes)) (add-one k)
    ∙ ap (sets old 0) (take-suc bytes k 0 h)
    ∙ sets-append old 0 (take k bytes) (get_or bytes k 0 ∷ [])
    ∙ ap (λ (i : ℕ). set (sets old 0 (take k bytes)) i (get_or bytes k 0)) z)

pub loop-k-preserved : goal.loop-k-preserved
loop-k-preserved c =
    let a = c.args in
    let h = c.loop-k in
    let b = carried a.s.now in
    (length-set h.out h.k _ ∙ h.invariant.0, ap (set h.out h.k) c.byte_of.ensures ∙ ap (λ (l : List ℕ). set l h.k (get_or b h.k 0)) h.invariant.1 ∙ store-more a.out.now b h.k (omega (arith, c.loop-k-test.true, c.requires)))

pub returns : goal.returns
returns c =
    let h = c.loop-k in
    let z : h.k ≡ c.args.n = omega (arith, c.loop-k-test.false) in
    h.invariant.1 ∙ ap (λ (i : ℕ). sets c.args.out.now 0 (take i (carried c.args.s.now))) z
