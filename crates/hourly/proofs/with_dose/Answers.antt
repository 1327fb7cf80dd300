use Rattle.hourly.specs.Hours.{as_f64}
use Rattle.hourly.specs.Tally.{with_dose}
use Rattle.hourly.proofs.with_dose.Goals as goal

pub returns : goal.returns
unfolding with_dose as_f64
returns c = rw c.max.ensures
