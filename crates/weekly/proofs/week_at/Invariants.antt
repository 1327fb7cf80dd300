use Rattle.std.proofs.Common.{map, ℕ, ◌+◌, ◌*◌}
use Rattle.hourly.specs.Says.{says_hour}
use Rattle.hourly.specs.Tally.{hour_among}
use Rattle.weekly.specs.Week.{day_by}
use Rattle.weekly.proofs.Filled.{Filled}
use Rattle.weekly.proofs.week_at.Given as goal

abbrev pub invariant-loop-d : goal.invariant-loop-d
invariant-loop-d l = Filled (map says_hour) (λ (k : ℕ). day_by (hour_among l.table l.found) (l.first + 24 * k)) 7 l.d l.week
