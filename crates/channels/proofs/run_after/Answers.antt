use Rattle.laws.specs.Pick.{picks}
use Rattle.channels.proofs.run_after.Goals as goal

pub returns-then-run-lt-MISMATCHES : goal.returns-then-run-lt-MISMATCHES
returns-then-run-lt-MISMATCHES c = search picks

pub returns-else-run-lt-MISMATCHES : goal.returns-else-run-lt-MISMATCHES
returns-else-run-lt-MISMATCHES c = search picks

pub returns-then-not-wrong : goal.returns-then-not-wrong
returns-then-not-wrong c = search picks
