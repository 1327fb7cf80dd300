use mathlib.Core.Path.{ap}
use mathlib.Core.List.{◌∷◌, ◌++◌, map}
use lib.ListN.{take, drop}
use Rattle.settings.specs.Table.{table}
use Rattle.settings.specs.Columns.{range_of}
use Rattle.settings.specs.declared.Range.{Range}
use Rattle.settings.proofs.Settings.ranges.Goals as goal

pub returns : goal.returns
unfolding table
returns c =
    let rows = table c.args.self in
    ap (λ (level : Range). map range_of (take 5 rows) ++ (level ∷ map range_of (drop 6 rows))) c.level_range.ensures
