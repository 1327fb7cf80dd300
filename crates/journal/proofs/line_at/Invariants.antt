-- The fields so far, and what is left from the next one on, make the line.
use Rattle.journal.specs.FieldLaws.{Fielded}
use Rattle.journal.proofs.line_at.Given as goal

abbrev pub invariant-loop-k : goal.invariant-loop-k
invariant-loop-k l = Fielded l.bytes l.at l.fields l.got l.k l.p
