-- The sum has room for two i32s less.
use mathlib.Core.Path.{sym, ◌∙◌}
use native.Mathlib.Omega.{arith}
use borrow.Author.Rules.{rules}
use borrow.Author.Tests.{lt-ltb, le-ltb}
use mir.Syntax.{w32, w64}
use mir.Val.{SFits}
use mir.Facts.{to_z-of_z, sfits_widen}
use lib.IntN.{◌-ℤ◌}
use Rattle.laws.specs.Pick.{pick-t, pick-f}
use Rattle.laws.specs.Whole.{fits64, abs-sub}
use Rattle.window.specs.Pass.{left_sum, left_count}
use Rattle.window.proofs.Told.{abs-i32}
use Rattle.window.proofs.left_of.Goals as goal

pub returns-then-n-lt4 : goal.returns-then-n-lt4
unfolding left_sum left_count
returns-then-n-lt4 c =
    let b = lt-ltb c.args.n 4 (omega arith) in
    (to_z-of_z c.ranges.sum ∙ sym (pick-t _ _ _ b), sym (pick-t _ _ _ b))

pub returns : goal.returns
unfolding left_sum left_count
returns c =
    let t = c.args.seen in
    let s = c.args.sum in
    let high : SFits w32 t.high = search rules in
    let low : SFits w32 t.low = search rules in
    let high-wide : SFits w64 t.high = sfits_widen tt high in
    let low-wide : SFits w64 t.low = sfits_widen tt low in
    let less-high : SFits w64 (s -ℤ t.high) = fits64 _ (omega (arith, abs-sub s t.high, abs-i32 t.high high)) in
    let less_both : SFits w64 (s -ℤ t.high -ℤ t.low) =
    fits64 _ (omega (arith, abs-sub s t.high, abs-sub (s -ℤ t.high) t.low, abs-i32 t.high high, abs-i32 t.low low)) in
    let b = le-ltb c.args.n 4 (omega arith) in
    (rw (to_z-of_z c.ranges.sum, to_z-of_z high, to_z-of_z high-wide, to_z-of_z less-high, to_z-of_z low, to_z-of_z low-wide, to_z-of_z less_both) (sym (pick-f _ _ _ b)), sym (pick-f _ _ _ b))
