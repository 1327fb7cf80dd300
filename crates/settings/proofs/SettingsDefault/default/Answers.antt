use mathlib.Core.Path.{refl}
use Rattle.settings.specs.Table.{default_set}
use Rattle.settings.proofs.SettingsDefault.default.Goals as goal

pub returns : goal.returns
unfolding default_set
returns c = refl
