use mathlib.Core.Path.{refl}
use Rattle.window.specs.Mean.{half_up}
use Rattle.window.proofs.half_up.Goals as goal

pub returns : goal.returns
unfolding half_up
returns c = refl
