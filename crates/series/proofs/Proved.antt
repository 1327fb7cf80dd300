-- Demand 3 holds of every series of calls from a fresh controller. Assumes nothing.
use Rattle.std.specs.Prelude.{List}
use Rattle.controller.specs.State.{fresh_of}
use Rattle.series.specs.Events.{Event, nothing_seen}
use Rattle.series.specs.Statement.{Demand3}
use Rattle.series.specs.Walk.{accords-fresh, all-fresh}
use Rattle.series.proofs.Walk.{accords-run, all-run}
use Rattle.series.specs.Proved.{demanded}

-- over any series of calls from a fresh controller, and so at each of its steps
pub demand-3 : (es : List Event) → Demand3 es
demand-3 es =
    demanded es (accords-run es fresh_of nothing_seen accords-fresh) (λ h. all-run es fresh_of nothing_seen h accords-fresh all-fresh)
