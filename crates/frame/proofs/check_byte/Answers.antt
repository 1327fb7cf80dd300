use mathlib.Core.Path.{sym, ap, ◌∙◌}
use Prim.Native.Nat.{ℕ, ◌≤◌}
use native.Mathlib.Omega.{arith}
use lib.ListN.{length, drop_of_length-le}
use Rattle.frame.specs.Check.{check, enter, enter_all}
use Rattle.frame.proofs.Laws.{enter_all-step}
use Rattle.frame.proofs.check_byte.Goals as goal

pub loop-x-preserved : goal.loop-x-preserved
loop-x-preserved c = rw c.enter-c.ensures (sym (enter_all-step c.args.body.now c.loop-x.x-index c.loop-x.c (omega arith)) ∙ c.loop-x.invariant)

pub returns : goal.returns
unfolding check enter_all
returns c =
    let body = c.args.body.now in
    let all : length body ≤ c.loop-x.x-index = omega arith in
    c.enter.ensures ∙ ap (λ (s : ℕ). enter s 0) (rw (drop_of_length-le body all) at c.loop-x.invariant)
