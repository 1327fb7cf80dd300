use mathlib.Core.Path.{ap, sym}
use Rattle.journal.specs.Journal.{hour_in}
use Rattle.journal.proofs.hour_in.Goals as goal

pub returns-in-Dose : goal.returns-in-Dose
unfolding hour_in
returns-in-Dose c = sym (ap hour_in c.in-Dose.is)

pub returns-in-On : goal.returns-in-On
unfolding hour_in
returns-in-On c = sym (ap hour_in c.in-On.is)
