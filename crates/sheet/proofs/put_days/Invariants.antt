use Rattle.sheet.proofs.Days.{Stored}
use Rattle.sheet.proofs.put_days.Given as goal

abbrev pub invariant-loop-d : goal.invariant-loop-d
invariant-loop-d l = Stored l.initial.out l.fn.days l.out l.at l.d
