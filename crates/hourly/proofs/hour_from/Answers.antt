use mathlib.Core.Path.{sym, ◌∙◌}
use lib.Dec.{eqb}
use borrow.Author.Tests.{not-true, not-false, eq-eqb, ne_eqb}
use Rattle.laws.specs.Pick.{pick-t, pick-f}
use Rattle.hourly.specs.Hours.{as_f64}
use Rattle.hourly.specs.Tally.{hour_from}
use Rattle.hourly.proofs.hour_from.Goals as goal

pub returns-then-t : goal.returns-then-t
unfolding hour_from
returns-then-t c = sym (pick-t c.args.t.holed _ _ c.if-t.true)

pub returns-then-not-t : goal.returns-then-not-t
unfolding hour_from
returns-then-not-t c =
    let t = c.args.t in
    sym (pick-f t.holed _ _ c.if-t.false ∙ pick-f t.on _ _ (not-true _ c.if-not-t.true))

pub returns-then-t-eq0 : goal.returns-then-t-eq0
unfolding hour_from
returns-then-t-eq0 c =
    let t = c.args.t in
    sym (pick-f t.holed _ _ c.if-t.false ∙ pick-t t.on _ _ (not-false _ c.if-not-t.false) ∙ pick-t (eqb t.doses 0) _ _ (eq-eqb _ 0 c.if-t-eq0.true))

pub returns : goal.returns
unfolding hour_from as_f64
returns c =
    let t = c.args.t in
    sym (pick-f t.holed _ _ c.if-t.false ∙ pick-t t.on _ _ (not-false _ c.if-not-t.false) ∙ pick-f (eqb t.doses 0) _ _ (ne_eqb _ 0 c.if-t-eq0.false))
