use mathlib.Core.Path.{◌≡◌, refl, ap, ◌∙◌}
use mathlib.Core.Bool.{Bool, false, ◌||◌}
use mathlib.Core.List.{List}
use Prim.Native.Nat.{ℕ, ◌+◌, ◌-◌, ◌<◌}
use native.Mathlib.Omega.{arith}
use lib.Dec.{eqb}
use lib.ListN.{length, get_or, take, drop, length-take}
use borrow.Author.Tests.{eqb-false}
use Rattle.std.proofs.lemmas.List.{get_or-take, get_or-drop}
use Rattle.laws.specs.Bools.{or_left, or_right}
use Rattle.text.specs.Scan.{LF}
use Rattle.lines.specs.Places.{end_of}
use Rattle.lines.proofs.Ends.{end_on}
use Rattle.lines.proofs.has_lf.Goals as goal

-- one byte more that is no LF
on : (block : List ℕ) (at k : ℕ) (found : Bool) (b : ℕ) → at + k < length block → b ≡ get_or block (at + k) 0 → (found ≡ false → (i : ℕ) → i ≡ at + k → end_of block i ≡ end_of block at)
    → (found || eqb b LF) ≡ false → (i : ℕ) → i ≡ at + (k + 1) → end_of block i ≡ end_of block at
on block at k found b h is inv e i place =
    let next : i ≡ at + k + 1 = omega arith in
    ap (end_of block) next ∙ end_on block (at + k) h (λ l. eqb-false _ _ (or_right found (eqb b LF) e) (is ∙ l)) ∙ inv (or_left found (eqb b LF) e) (at + k) refl

stands : (block : List ℕ) (at m k : ℕ) → k < m → get_or (take m (drop at block)) k 0 ≡ get_or block (at + k) 0
stands block at m k h = get_or-take m (drop at block) k 0 h ∙ get_or-drop at block k 0

pub loop-b-preserved : goal.loop-b-preserved
loop-b-preserved c =
    let a = c.args in
    let block = a.block.now in
    let k = c.loop-b.b-index in
    let m = a.at + a.n - a.at in
    let h : k < m = omega (arith, length-take m (drop a.at block)) in
    on block a.at k _ _ (omega arith) (stands block a.at m k h) c.loop-b.invariant
