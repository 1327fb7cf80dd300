use mathlib.Core.Path.{ap, sym}
use Rattle.journal.specs.Says.{names_of}
use Rattle.journal.proofs.number_and_line.Goals as goal

pub returns-in-R10 : goal.returns-in-R10
unfolding names_of
returns-in-R10 c = ap names_of (sym c.in-R10.is)

pub returns-in-R11 : goal.returns-in-R11
unfolding names_of
returns-in-R11 c = ap names_of (sym c.in-R11.is)

pub returns-in-R12 : goal.returns-in-R12
unfolding names_of
returns-in-R12 c = ap names_of (sym c.in-R12.is)

pub returns-in-R13 : goal.returns-in-R13
unfolding names_of
returns-in-R13 c = ap names_of (sym c.in-R13.is)
