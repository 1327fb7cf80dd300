use mathlib.Core.Path.{sym, ◌∙◌}
use borrow.Author.Tests.{eq-eqb, ne_eqb}
use Rattle.laws.specs.Pick.{pick-t, pick-f}
use Rattle.frame.specs.Frame.{fewest, extended}
use Rattle.frame.proofs.fewest.Goals as goal

pub returns-then-first-eq0 : goal.returns-then-first-eq0
unfolding fewest extended
returns-then-first-eq0 c = sym (pick-t _ _ _ (eq-eqb _ _ (sym c.first.ensures ∙ c.if-first-eq0.true)))

pub returns-else-first-eq0 : goal.returns-else-first-eq0
unfolding fewest extended
returns-else-first-eq0 c = sym (pick-f _ _ _ (ne_eqb _ _ (λ e. c.if-first-eq0.false (c.first.ensures ∙ e))))
