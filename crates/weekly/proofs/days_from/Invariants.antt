use Rattle.weekly.proofs.Filled.{Mapped}
use Rattle.weekly.proofs.Passed.{day_in}
use Rattle.weekly.proofs.days_from.Given as goal

abbrev pub invariant-loop-d : goal.invariant-loop-d
invariant-loop-d l = Mapped day_in l.week 7 l.d l.days
