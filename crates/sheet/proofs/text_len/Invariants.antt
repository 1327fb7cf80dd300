use Rattle.sheet.proofs.Days.{Measured}
use Rattle.sheet.proofs.text_len.Given as goal

abbrev pub invariant-loop-d : goal.invariant-loop-d
invariant-loop-d l = Measured l.fn.days l.n l.d
