-- The literal 0.0 is the whole number 0. Assumes nothing.
use mathlib.Core.Path.{ap}
use mathlib.Core.Bool.{false}
use mathlib.Core.List.{List}
use lib.ListN.{replicate}
use lib.Ieee.{Float}
use Rattle.hourly.specs.Tally.{no_tally}
use Rattle.hourly.specs.declared.Tally.{Tally}
use Rattle.hourly.specs.Floats.{zero-whole}
use Rattle.hourly.proofs.no_tallies.Goals as goal

table : Float → List Tally
table x = replicate 744 (record { doses = 0; sum = x; largest = 0; on = false; holed = false })

pub returns : goal.returns
unfolding table no_tally
returns c = ap table zero-whole
