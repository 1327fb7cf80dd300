use Prim.Native.Nat.{◌+◌}
use native.Mathlib.Omega.{arith}
use Rattle.laws.specs.Pick.{pick_true, pick-false, so}
use Rattle.dosing.specs.Rules.{dose_settle}
use Rattle.dosing.specs.Laws.{settle-later}
use Rattle.dosing.proofs.dose_settle.Goals as goal

pub overflow_add-n : goal.overflow_add-n
overflow_add-n c = let a = c.args in record { fits = omega (arith, settle-later a.set (a.n + 1) a.t.stable (so c.settle_ends.ensures c.if-settle_ends.false)) }

pub returns-then-settle_ends : goal.returns-then-settle_ends
unfolding dose_settle
returns-then-settle_ends c = simp (c.completes.ensures, c.not_below_zero.ensures, so c.settle_ends.ensures c.if-settle_ends.true, pick_true)

pub returns : goal.returns
unfolding dose_settle
returns c = simp (c.rests.ensures, so c.settle_ends.ensures c.if-settle_ends.false, pick-false)
