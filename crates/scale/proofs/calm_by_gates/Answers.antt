use mathlib.Core.Path.{sym, ◌∙◌}
use Rattle.laws.specs.Pick.{pick-t, pick-f}
use Rattle.scale.proofs.Laws.{calm-unmoved}
use Rattle.scale.proofs.calm_by_gates.Goals as goal

pub returns-then-eq : goal.returns-then-eq
returns-then-eq c = sym (pick-t _ _ _ c.if-eq.true) ∙ calm-unmoved c.args.old c.args.new c.args.s c.eq.ensures

pub returns-else-eq : goal.returns-else-eq
returns-else-eq c = sym (pick-f _ _ _ c.if-eq.false) ∙ calm-unmoved c.args.old c.args.new c.args.s c.eq.ensures
