-- Each signed value is read back from its bits, since it fits; then the laws of `Round`.
use mathlib.Core.Path.{◌≡◌, ap, ◌∙◌}
use Prim.Native.Nat.{ℕ, ◌^◌, ◌<◌}
use native.Mathlib.Omega.{arith}
use lib.IntN.{pos, ◌-ℤ◌, nat_abs}
use mir.Syntax.{w64}
use mir.Val.{SFits}
use mir.Facts.{to_z-of_z, to_z_pos}
use Rattle.laws.specs.Whole.{fits64, abs-sub}
use Rattle.window.specs.Mean.{half_up}
use Rattle.window.proofs.Round.{round-below, round-from, half-small}
use Rattle.window.proofs.rounded.Goals as goal
use Rattle.window.proofs.rounded.Goals.{After-half_up-size}

-- the rounded magnitude
module _ (c : After-half_up-size) where
  size : c.half_up-size.result ≡ half_up (nat_abs c.args.s) c.args.n
  size = c.half_up-size.ensures ∙ ap (λ (m : ℕ). half_up m c.args.n) (c.unsigned_abs.ensures.value ∙ ap nat_abs (to_z-of_z c.ranges.s))

  small : c.half_up-size.result < 2 ^ 63
  small = rw size (half-small _ _ (omega arith) (omega arith))

  minus : SFits w64 (pos 0 -ℤ pos c.half_up-size.result)
  minus = fits64 _ (omega (arith, small, abs-sub (pos 0) (pos c.half_up-size.result)))

pub overflow_cast-size : goal.overflow_cast-size
overflow_cast-size c = fits64 _ (small c)

pub overflow_sub-result : goal.overflow_sub-result
overflow_sub-result c = let d = (goal.at.overflow_sub-result c).After-half_up-size in rw (to_z_pos w64 (small d)) (minus d)

pub returns-then-s-lt0 : goal.returns-then-s-lt0
returns-then-s-lt0 c =
    let d = (goal.at.returns-then-s-lt0 c).After-half_up-size in
    rw (to_z_pos w64 (small d), to_z-of_z (minus d), size d) (round-below _ _ (rw (to_z-of_z d.ranges.s) at c.if-s-lt0.true))

pub returns-else-s-lt0 : goal.returns-else-s-lt0
returns-else-s-lt0 c =
    let d = (goal.at.returns-else-s-lt0 c).After-half_up-size in
    rw (to_z_pos w64 (small d), size d) (round-from _ _ (rw (to_z-of_z d.ranges.s) at c.if-s-lt0.false))
