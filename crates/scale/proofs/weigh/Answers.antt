use mathlib.Core.Path.{ap, ◌∙◌}
use Rattle.laws.specs.Pick.{so}
use Rattle.dosing.specs.Rules.{units}
use Rattle.scale.specs.Scale.{as_window, showable}
use Rattle.scale.specs.Laws.{as-filtered}
use Rattle.scale.proofs.Laws.{unweighed, weighed}
use Rattle.scale.proofs.weigh.Goals as goal

pub returns-then-holds_none : goal.returns-then-holds_none
returns-then-holds_none c =
    let a = c.args in
    c.shown.ensures
    ∙ ap showable (unweighed a.set (as_window a.samples.now a.held) a.z a.s a.n (so c.holds_none.ensures c.if-holds_none.true))

pub returns : goal.returns
returns c =
    let a = c.args in
    let mean = c.mean_lent-f.ensures ∙ ap units (as-filtered _ _ _) in
    c.shown-2.ensures
    ∙ ap showable (weighed a.set (as_window a.samples.now a.held) a.z a.s a.n (so c.holds_none.ensures c.if-holds_none.false) mean c.net.ensures c.stable_of.ensures c.over_capacity.ensures)
