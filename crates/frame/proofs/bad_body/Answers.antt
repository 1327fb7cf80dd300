use Rattle.laws.specs.Pick.{so}
use Rattle.frame.specs.Read.{bad_body}
use Rattle.frame.proofs.bad_body.Goals as goal

pub returns-then-too_short : goal.returns-then-too_short
unfolding bad_body
returns-then-too_short c = rw (c.if-too_short.true, so c.too_short.ensures c.if-too_short.true)

pub returns-else-too_short : goal.returns-else-too_short
unfolding bad_body
returns-else-too_short c = rw (so c.too_short.ensures c.if-too_short.false, c.check_byte.ensures)
