use mathlib.Core.Path.{refl}
use Rattle.clock.specs.Clock.{with_whole, with_known, restarted_by}
use Rattle.clock.proofs.restarted.Goals as goal

pub returns : goal.returns
unfolding restarted_by with_known with_whole
returns c = refl
