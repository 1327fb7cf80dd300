use Rattle.clock.specs.Marking.{writes_as}
use Rattle.clock.proofs.Writing.{counts-refuses, ticked-writes}
use Rattle.clock.proofs.ticked.Goals as goal

pub returns-then-k-gt-GREATEST_HOUR : goal.returns-then-k-gt-GREATEST_HOUR
returns-then-k-gt-GREATEST_HOUR c = writes_as (counts-refuses c.args.k _ c.if-k-gt-GREATEST_HOUR.true) c.refuse.ensures

pub returns : goal.returns
returns c = ticked-writes c.args.k c.if-k-gt-GREATEST_HOUR.false c.requires.1 c.one_more.ensures
