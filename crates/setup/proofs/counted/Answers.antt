use mathlib.Core.Path.{refl}
use Rattle.setup.proofs.counted.Goals as goal

pub returns : goal.returns
returns c = refl
