use native.Mathlib.Omega.{arith}
use mathlib.Core.Path.{ap, sym, ◌∙◌}
use borrow.Author.Tests.{eq-eqb, ne_eqb}
use Rattle.laws.specs.Pick.{pick-t, pick-f, picks}
use Rattle.journal.specs.Fields.{fields_of_d, fields_after}
use Rattle.journal.proofs.fields_after.Goals as goal

pub returns-in-Old : goal.returns-in-Old
unfolding fields_after fields_of_d
returns-in-Old c = sym (pick-t _ _ _ (eq-eqb _ _ c.in-68.is) ∙ ap fields_of_d c.in-Old.is)

pub returns-in-New : goal.returns-in-New
unfolding fields_after fields_of_d
returns-in-New c = sym (pick-t _ _ _ (eq-eqb _ _ c.in-68.is) ∙ ap fields_of_d c.in-New.is)

pub returns-in-72 : goal.returns-in-72
unfolding fields_after
returns-in-72 c = sym (pick-f _ _ _ (ne_eqb _ _ (λ e. omega (arith, c.in-72.is, e))) ∙ pick-t _ _ _ (eq-eqb _ _ c.in-72.is))

pub returns-in_default : goal.returns-in_default
unfolding fields_after
returns-in_default c = search picks
