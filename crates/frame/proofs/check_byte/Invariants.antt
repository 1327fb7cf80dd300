-- The bytes from the index on still enter.
use mathlib.Core.Path.{◌≡◌}
use lib.ListN.{drop}
use Rattle.frame.specs.Check.{enter_all}
use Rattle.frame.proofs.check_byte.Given as goal

abbrev pub invariant-loop-x : goal.invariant-loop-x
invariant-loop-x l = enter_all l.c (drop l.x-index l.body) ≡ enter_all 0 l.body
