use lib.IntN.{pos}
use lib.ListN.{get_or}
use borrow.Author.Rules.{rules}
use mir.Syntax.{w32}
use mir.Val.{SFits}
use native.Mathlib.Omega.{arith}
use Rattle.std.proofs.Common.{take_all}
use Rattle.window.proofs.Sum.{total-none, sum-fits, sum-more}
use Rattle.window.proofs.total.Goals as goal

pub loop-x-init : goal.loop-x-init
loop-x-init c = total-none

pub overflow_add-sum : goal.overflow_add-sum
overflow_add-sum c =
    let f : SFits w32 (get_or c.args.s.now c.loop-x.x-index (pos 0)) = search rules in
    sum-fits c.args.s.now c.loop-x.x-index _ c.loop-x.invariant c.requires f

pub loop-x-preserved : goal.loop-x-preserved
loop-x-preserved c =
    let f : SFits w32 (get_or c.args.s.now c.loop-x.x-index (pos 0)) = search rules in
    sum-more c.args.s.now c.loop-x.x-index _ c.loop-x.invariant c.requires f

pub returns : goal.returns
returns c = rw (take_all c.loop-x.x-index c.args.s.now (omega arith)) at c.loop-x.invariant
