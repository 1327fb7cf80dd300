use Rattle.laws.specs.Pick.{picks}
use Rattle.settings.specs.Table.{least_level, most_level}
use Rattle.settings.proofs.Settings.level_range.Goals as goal

pub returns-then-self-le1 : goal.returns-then-self-le1
unfolding least_level most_level
returns-then-self-le1 c = rw c.requires (search picks)

pub returns-else-self-le1 : goal.returns-else-self-le1
unfolding least_level most_level
returns-else-self-le1 c = search picks
