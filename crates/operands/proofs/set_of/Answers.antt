use mathlib.Core.Path.{refl}
use Rattle.operands.specs.Numbers.{set_with}
use Rattle.operands.proofs.set_of.Goals as goal

pub returns : goal.returns
unfolding set_with
returns c = refl
