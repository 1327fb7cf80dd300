use Rattle.heading.proofs.Coming.{turned-line, turned_more, turned_none}
use Rattle.heading.proofs.turn.Goals as goal

pub returns-in-Some : goal.returns-in-Some
returns-in-Some c = turned-line _ _ _ _ _ c.next_line-taken.ensures c.in-Some.is

pub returns-in-Ok : goal.returns-in-Ok
returns-in-Ok c = turned_more _ _ _ _ _ _ c.next_line-taken.ensures c.in_default.is c.refill.ensures c.in-Ok.is

pub returns-in-Err : goal.returns-in-Err
returns-in-Err c = turned_none _ _ _ _ _ _ _ c.next_line-taken.ensures c.in_default.is c.refill.ensures c.in-Err.is
