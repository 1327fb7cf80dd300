use mathlib.Core.Path.{sym, ◌∙◌}
use native.Mathlib.Numerals.{add-one}
use borrow.Author.Tests.{eq-eqb}
use Rattle.laws.specs.Pick.{pick-t, picks}
use Rattle.conversion.specs.Bytes.{line_after}
use Rattle.conversion.proofs.line_after.Goals as goal

pub returns-then-b-eq-LF : goal.returns-then-b-eq-LF
unfolding line_after
returns-then-b-eq-LF c = add-one _ ∙ sym (pick-t _ _ _ (eq-eqb _ _ c.if-b-eq-LF.true))

pub returns : goal.returns
unfolding line_after
returns c = search picks
