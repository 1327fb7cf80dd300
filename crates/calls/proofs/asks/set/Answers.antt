use mathlib.Core.Path.{sym, ap, ◌∙◌}
use native.Mathlib.Omega.{arith}
use Rattle.calls.specs.Call.{order, settings_at}
use Rattle.calls.specs.Reads.{as_call, size_of, Within}
use Rattle.operands.specs.Parsing.{on-good, on-bad, num, good-as}
use Rattle.settings.specs.declared.Settings.{Settings}
use Rattle.calls.specs.declared.Order.TheVariants.{Settings as Set}
use Rattle.calls.proofs.Steps.{row, unasked, asked, asked-last, last_none, last_some}
use Rattle.calls.proofs.asks.set.Goals as goal

pub returns-then-line-next : goal.returns-then-line-next
unfolding settings_at as_call size_of Within
returns-then-line-next c =
    let got = row c.numbers_at.ensures c.in-Some.is in
    asked-last (on-good _ got ∙ last_none _ _ _ _ c.if-line-next.true) (good-as (ap (λ (x : Settings). order (Set x)) (sym c.set_of.ensures))) (omega arith) tt

pub returns-in_default-field_at : goal.returns-in_default-field_at
unfolding settings_at
returns-in_default-field_at c =
    let got = row c.numbers_at.ensures c.in-Some.is in
    unasked (on-good _ got ∙ last_some _ _ _ _ c.if-line-next.false ∙ on-bad _ (num c.field_at.ensures c.in_default-field_at.is))

pub returns : goal.returns
unfolding settings_at as_call size_of Within
returns c =
    let got = row c.numbers_at.ensures c.in-Some.is in
    let product = num c.field_at.ensures c.in-Some-field_at.is in
    asked c.ended.ensures (on-good _ got ∙ last_some _ _ _ _ c.if-line-next.false ∙ on-good _ product) (good-as (ap (λ (x : Settings). order (Set x)) (sym c.set_of-2.ensures))) (omega arith) tt

pub returns-in_default : goal.returns-in_default
unfolding settings_at
returns-in_default c = unasked (on-bad _ (row c.numbers_at.ensures c.in_default.is))
