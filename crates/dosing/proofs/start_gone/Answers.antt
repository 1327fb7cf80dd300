use mathlib.Core.Path.{refl}
use Rattle.dosing.proofs.start_gone.Goals as goal

pub returns : goal.returns
returns c = refl
