use mathlib.Core.Path.{sym}
use borrow.Author.Tests.{eq-eqb, ne_eqb}
use Rattle.laws.specs.Pick.{pick-t, pick-f}
use Rattle.journal.specs.Fields.{line_from}
use Rattle.journal.specs.Line.{on_from}
use Rattle.journal.proofs.line_from.Goals as goal

pub returns-then-n-eq1 : goal.returns-then-n-eq1
unfolding line_from on_from
returns-then-n-eq1 c = sym (pick-t _ _ _ (eq-eqb _ _ c.if-n-eq1.true))

pub returns : goal.returns
unfolding line_from
returns c = rw c.product_from.ensures (sym (pick-f _ _ _ (ne_eqb _ _ c.if-n-eq1.false)))
