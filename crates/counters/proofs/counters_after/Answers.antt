use Rattle.counters.specs.Counters.{counters_after, counted_of}
use Rattle.counters.proofs.counters_after.Goals as goal

pub returns-in-None : goal.returns-in-None
unfolding counters_after
returns-in-None c = rw c.in-None.is

pub returns-in-Some : goal.returns-in-Some
unfolding counters_after counted_of
returns-in-Some c = rw c.in-Some.is (simp (c.wrapped-in-Some.ensures, c.wrapped.ensures))
