use mir.Facts.{to_z-of_z}
use Rattle.settings.specs.Table.{wc}
use Rattle.dosing.specs.Rules.{reached_wc}
use Rattle.dosing.proofs.reached_wc.Goals as goal

pub returns : goal.returns
unfolding reached_wc wc
returns c = rw (to_z-of_z c.ranges.x, c.saturating_sub.ensures) at c.at_least.ensures
