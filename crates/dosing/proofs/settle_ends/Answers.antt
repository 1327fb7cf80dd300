use mathlib.Core.Path.{sym}
use mathlib.Core.Bool.{or-true}
use Prim.Native.Nat.{◌+◌, ◌*◌}
use native.Mathlib.Omega.{arith}
use borrow.Author.Tests.{le-leb}
use Rattle.dosing.specs.Rules.{settle_ends}
use Rattle.dosing.proofs.settle_ends.Goals as goal

pub returns-then-n-last : goal.returns-then-n-last
unfolding settle_ends
returns-then-n-last c = rw c.from-last.ensures

pub returns : goal.returns
unfolding settle_ends
returns c =
    let a = c.args in
    rw (le-leb (256 * a.set.p9) (a.n + 1) (omega (arith, c.from-last.ensures))) (sym (or-true a.stable))
