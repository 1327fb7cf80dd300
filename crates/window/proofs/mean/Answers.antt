-- What the pass tells is what the mean asks, and the mean of i32s is an i32.
use mathlib.Core.Path.{◌≡◌, ◌∙◌}
use mathlib.Core.List.{List}
use Prim.Native.Nat.{ℕ, ◌*◌, ◌≤◌}
use native.Mathlib.Omega.{arith}
use borrow.Author.Rules.{rules}
use lib.IntN.{ℤ, nat_abs}
use lib.ListN.{length}
use mir.Syntax.{w32, w64}
use mir.Val.{to_z, of_z, SFits}
use mir.Facts.{to_z-of_z}
use Rattle.window.specs.Range.{Total}
use Rattle.window.specs.Mean.{mean_of, round_away}
use Rattle.window.specs.MeanLaws.{mean-fits}
use Rattle.window.specs.Pass.{left_sum}
use Rattle.window.proofs.Sum.{total_size}
use Rattle.window.proofs.Told.{abs-i32, told-mean, left-small, left-count}
use Rattle.window.proofs.mean.Goals as goal
use Rattle.window.proofs.mean.Goals.{After-rounded}

alike : {a b : ℤ} {k l : ℕ} → a ≡ b → k ≡ l → round_away a k ≡ round_away b l
alike p q = rw (p, q)

-- the sum of so few samples
small : (s : List ℤ) (sum : ℤ) → length s ≤ 128 → Total s sum → nat_abs sum ≤ 128 * 2147483648
small s sum h t = omega (arith, total_size s sum t)

pub left_of-left-requires : goal.left_of-left-requires
left_of-left-requires c =
    let f : SFits w64 c.whole.result = search rules in
    rw (to_z-of_z f) (c.requires.1, small c.args.s.now _ c.requires.1 c.whole.ensures)

pub rounded-requires : goal.rounded-requires
rounded-requires c =
    let t = c.pass-seen.result in
    let sum = c.whole.result in
    let n = length c.args.s.now in
    let high : SFits w32 t.high = search rules in
    let low : SFits w32 t.low = search rules in
    let f : SFits w64 sum = search rules in
    let g : SFits w64 c.left_of-left.result.sum = search rules in
    let left : c.left_of-left.result.sum ≡ left_sum t sum n = rw (to_z-of_z f) at c.left_of-left.ensures.0 in
    let k = left-count n c.requires.0 c.requires.1 in
    let room = left-small t sum n (abs-i32 _ high) (abs-i32 _ low) (small c.args.s.now _ c.requires.1 c.whole.ensures) in
    rw (to_z-of_z g, c.left_of-left.ensures.1) (k.0, k.1, rw left room)

-- the answer is the mean, and fits
module _ (c : After-rounded) where
  is : c.rounded.result ≡ mean_of c.args.s.now
  is =
      let f : SFits w64 c.whole.result = search rules in
      let g : SFits w64 c.left_of-left.result.sum = search rules in
      (rw (to_z-of_z g) at c.rounded.ensures)
      ∙ alike (rw (to_z-of_z f) at c.left_of-left.ensures.0) c.left_of-left.ensures.1
      ∙ told-mean c.args.s.now c.pass-seen.result c.whole.result c.requires.0 c.pass-seen.ensures c.whole.ensures

  wide : to_z w64 (of_z w64 c.rounded.result) ≡ c.rounded.result
  wide = let f : SFits w64 c.rounded.result = search rules in to_z-of_z f

  narrow : SFits w32 c.rounded.result
  narrow = rw is (mean-fits _ c.whole.ensures.all)

pub overflow_cast-result : goal.overflow_cast-result
overflow_cast-result c = rw (wide c) (narrow c)

pub returns : goal.returns
returns c = rw (wide c, to_z-of_z (narrow c)) (is c)
