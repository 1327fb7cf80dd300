use mathlib.Core.Path.{sym, ◌∙◌, ap, ◌≡◌}
use native.Mathlib.Omega.{arith}
use borrow.Author.Rules.{rules}
use borrow.Author.Tests.{lt-leb, le-leb}
use lib.IntN.{nat_abs}
use mir.Syntax.{w64}
use mir.Val.{SFits}
use mir.Facts.{to_z-of_z}
use Rattle.laws.specs.Pick.{pick-t, pick-f}
use Rattle.scale.specs.Scale.{six_digits}
use Rattle.scale.proofs.Laws.{narrow-is}
use Rattle.scale.proofs.Wide.six_digits.Goals as goal
use Rattle.scale.proofs.Wide.six_digits.Goals.{After-unsigned_abs}

size : (c : After-unsigned_abs) → c.unsigned_abs.result ≡ nat_abs c.args.self.v
size c = let f : SFits w64 c.args.self.v = search rules in c.unsigned_abs.ensures.value ∙ ap nat_abs (to_z-of_z f)

pub returns-then-unsigned_abs-gt-SIX_DIGITS : goal.returns-then-unsigned_abs-gt-SIX_DIGITS
unfolding six_digits
returns-then-unsigned_abs-gt-SIX_DIGITS c =
    sym (pick-f _ _ _ (lt-leb _ 999999 (omega (arith, size (goal.at.returns-then-unsigned_abs-gt-SIX_DIGITS c).After-unsigned_abs))))

pub returns : goal.returns
unfolding six_digits
returns c =
    let e = size (goal.at.returns c).After-unsigned_abs in
    let f : SFits w64 c.args.self.v = search rules in
    rw (narrow-is f (omega (arith, e))) (sym (pick-t _ _ _ (le-leb _ 999999 (omega (arith, e)))))
