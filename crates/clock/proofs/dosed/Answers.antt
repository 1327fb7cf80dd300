use native.Mathlib.Omega.{arith}
use Rattle.clock.specs.Clock.{dose_in}
use Rattle.clock.specs.Keeps.{dose-in-range}
use Rattle.clock.specs.Marking.{writes_as}
use Rattle.clock.proofs.Writing.{counts-refuses, dosed-writes}
use Rattle.clock.proofs.dosed.Goals as goal

pub returns-then-k-gt-GREATEST_HOUR : goal.returns-then-k-gt-GREATEST_HOUR
returns-then-k-gt-GREATEST_HOUR c = writes_as (counts-refuses c.args.k _ c.if-k-gt-GREATEST_HOUR.true) c.refuse.ensures

pub put_line-at-requires : goal.put_line-at-requires
unfolding dose_in
put_line-at-requires c = (dose-in-range c.args.k.hour c.args.dose c.if-k-gt-GREATEST_HOUR.false c.requires.1, omega (arith, c.requires.2))

pub returns : goal.returns
unfolding dose_in
returns c = dosed-writes c.args.k (dose_in c.args.k.hour c.args.dose) c.if-k-gt-GREATEST_HOUR.false c.requires.2 c.put_line-at.ensures c.one_more.ensures
