use mathlib.Core.Path.{sym}
use Rattle.laws.specs.Pick.{pick-t, pick-f}
use Rattle.asking.specs.Asking.{known, bare}
use Rattle.asking.specs.Asking.{code_of}
use Rattle.asking.proofs.code_stage.Goals as goal

pub returns-then-known-parts : goal.returns-then-known-parts
unfolding code_of known bare
returns-then-known-parts c = sym (pick-t _ _ _ c.if-known-parts.true)

pub returns-else-known-parts : goal.returns-else-known-parts
unfolding code_of known bare
returns-else-known-parts c = sym (pick-f _ _ _ c.if-known-parts.false)
