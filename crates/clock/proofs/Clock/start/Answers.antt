use mathlib.Core.Path.{refl}
use Rattle.clock.specs.Clock.{start_of}
use Rattle.clock.specs.Keeps.{start-runs}
use Rattle.clock.proofs.Clock.start.Goals as goal

pub returns : goal.returns
unfolding start_of
returns c = record { is = refl; runs = start-runs }
