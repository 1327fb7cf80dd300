use mathlib.Core.Path.{◌≡◌}
use Rattle.lines.specs.Places.{end_of}
use Rattle.lines.proofs.end_from.Given as goal

abbrev pub invariant-loop-i : goal.invariant-loop-i
invariant-loop-i l = end_of l.block l.i ≡ end_of l.block l.at
