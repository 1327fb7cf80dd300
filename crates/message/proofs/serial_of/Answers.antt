use mathlib.Core.Path.{refl}
use Rattle.message.proofs.serial_of.Goals as goal

pub returns : goal.returns
returns c = refl
