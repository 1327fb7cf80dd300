use mathlib.Core.Path.{refl}
use Rattle.hourly.specs.Tally.{accepted_after}
use Rattle.hourly.proofs.accepted.Goals as goal

pub returns : goal.returns
unfolding accepted_after
returns c = refl
