use mir.Facts.{to_z-of_z}
use Rattle.settings.specs.Table.{wf}
use Rattle.dosing.specs.Rules.{reached_wf}
use Rattle.dosing.proofs.reached_wf.Goals as goal

pub returns : goal.returns
unfolding reached_wf wf
returns c = rw (to_z-of_z c.ranges.x, c.saturating_sub.ensures) at c.at_least.ensures
