use mathlib.Core.Path.{refl}
use Rattle.settings.specs.Table.{table}
use Rattle.settings.proofs.Settings.values.Goals as goal

pub returns : goal.returns
unfolding table
returns c = refl
