use mathlib.Core.Path.{sym, ap}
use Rattle.sheet.specs.Lines.{letter_of}
use Rattle.sheet.proofs.letter_of.Goals as goal

pub returns-in-Worked : goal.returns-in-Worked
unfolding letter_of
returns-in-Worked c = ap letter_of (sym c.in-Worked.is)

pub returns-in-Holiday : goal.returns-in-Holiday
unfolding letter_of
returns-in-Holiday c = ap letter_of (sym c.in-Holiday.is)

pub returns-in-Unknown : goal.returns-in-Unknown
unfolding letter_of
returns-in-Unknown c = ap letter_of (sym c.in-Unknown.is)
