-- The pass: the lines so far are judged and counted, and what is left from the next line on gives the rest of the answer; within a line, the fields so far and what is left from the next one on make the line.
use Prim.Native.Nat.{◌-◌}
use lib.ListN.{length}
use Rattle.journal.specs.FieldLaws.{Fielded}
use Rattle.hourly.proofs.Passing.{Passed}
use Rattle.hourly.proofs.tallies.Given as goal

abbrev pub invariant-fields : goal.invariant-fields
invariant-fields l = Fielded l.bytes l.at l.fields l.got l.k l.p

abbrev pub invariant-lines : goal.invariant-lines
invariant-lines l = Passed l.products l.bytes l.past l.at l.lines l.table l.holed l.last

abbrev pub decreases-lines : goal.decreases-lines
decreases-lines l = length l.bytes - l.at
