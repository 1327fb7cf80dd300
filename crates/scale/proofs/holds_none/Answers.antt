use mathlib.Core.Path.{sym, ◌∙◌}
use borrow.Author.Tests.{ne_eqb}
use Rattle.scale.specs.Laws.{none_lent}
use Rattle.scale.proofs.holds_none.Goals as goal

pub returns-then-held-eq0 : goal.returns-then-held-eq0
returns-then-held-eq0 c = sym (none_lent c.args.samples.now c.args.held ∙ rw c.if-held-eq0.true)

pub returns-else-held-eq0 : goal.returns-else-held-eq0
returns-else-held-eq0 c = c.is_empty.ensures ∙ sym (none_lent c.args.samples.now c.args.held ∙ rw (ne_eqb _ _ c.if-held-eq0.false))
