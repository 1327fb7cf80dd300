use Rattle.std.proofs.Common.{rules}
use Rattle.heading.proofs.Coming.{headed-first, headed-on}
use Rattle.heading.proofs.read_heading.Goals as goal

pub loop-init : goal.loop-init
loop-init c = (search rules, headed-first _ _ _ _ c.start.ensures c.turn-headed.ensures)

pub loop-preserved : goal.loop-preserved
loop-preserved c =
    let l = c.loop in
    (search (rules, l.invariant.0), headed-on _ _ _ _ l.invariant.1 c.in-More.is c.turn-headed-in-loop.ensures)
