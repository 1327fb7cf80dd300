use Rattle.std.proofs.Common.{ℕ, ◌+◌}
use Rattle.hourly.specs.Says.{says_hour}
use Rattle.hourly.specs.Tally.{hour_among}
use Rattle.weekly.proofs.Filled.{Filled}
use Rattle.weekly.proofs.row_at.Given as goal

abbrev pub invariant-loop-h : goal.invariant-loop-h
invariant-loop-h l = Filled says_hour (λ (k : ℕ). hour_among l.table l.found (l.from + k)) 24 l.h l.row
