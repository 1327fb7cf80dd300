use borrow.Author.Tests.{lt-ltb, le-ltb, eq-eqb, ne_eqb}
use Rattle.laws.specs.Pick.{pick}
use Rattle.weekly.specs.Counted.{kind_by}
use Rattle.weekly.proofs.kind_by.Goals as goal

pub returns-then-covered-gt0 : goal.returns-then-covered-gt0
unfolding kind_by pick
returns-then-covered-gt0 c = simp (lt-ltb _ _ c.if-covered-gt0.true)

pub returns-then-idle-eq24 : goal.returns-then-idle-eq24
unfolding kind_by pick
returns-then-idle-eq24 c = simp (le-ltb _ _ c.if-covered-gt0.false, eq-eqb _ _ c.if-idle-eq24.true)

pub returns : goal.returns
unfolding kind_by pick
returns c = simp (le-ltb _ _ c.if-covered-gt0.false, ne_eqb _ _ c.if-idle-eq24.false)
