use lib.IntN.{pos}
use lib.ListN.{get_or}
use native.Mathlib.Omega.{arith}
use borrow.Author.Rules.{rules}
use mir.Syntax.{w32}
use mir.Val.{SFits}
use mir.Facts.{to_z-of_z}
use Rattle.std.proofs.Common.{take_all}
use Rattle.window.specs.Pass.{start_of}
use Rattle.window.proofs.Told.{passed-none, passed-more}
use Rattle.window.proofs.pass.Goals as goal

pub loop-x-init : goal.loop-x-init
unfolding start_of
loop-x-init c =
    let f : SFits w32 (get_or c.args.s.now 0 (pos 0)) = search rules in
    rw (to_z-of_z f) (passed-none _)

pub loop-x-preserved : goal.loop-x-preserved
loop-x-preserved c =
    let f : SFits w32 (get_or c.args.s.now c.loop-x.x-index (pos 0)) = search rules in
    passed-more _ c.loop-x.seen c.with-seen.result c.args.s.now c.loop-x.x-index (omega arith) f.sfits (rw (to_z-of_z f) at c.with-seen.ensures) c.loop-x.invariant

pub returns : goal.returns
returns c = rw (take_all c.loop-x.x-index c.args.s.now (omega arith)) at c.loop-x.invariant
