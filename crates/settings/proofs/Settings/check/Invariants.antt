-- The rows from place i on give the whole answer.
use mathlib.Core.Path.{◌≡◌}
use Rattle.settings.specs.Table.{first_bad}
use Rattle.settings.proofs.Steps.{from_place}
use Rattle.settings.proofs.Settings.check.Given as goal

abbrev pub invariant-loop-i : goal.invariant-loop-i
invariant-loop-i l = first_bad l.fn.self ≡ from_place l.fn.self l.i
