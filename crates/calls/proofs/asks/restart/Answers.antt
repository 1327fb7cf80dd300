use mathlib.Core.Path.{sym, ap, ◌∙◌}
use native.Mathlib.Omega.{arith}
use lib.ListN.{get_or}
use Rattle.settings.specs.declared.Settings.{Settings}
use Rattle.calls.specs.Call.{order, restart_at}
use Rattle.calls.specs.Reads.{as_call, size_of, Within}
use Rattle.operands.specs.Parsing.{on-good, on-bad, num, good-as}
use Rattle.calls.specs.declared.Order.TheVariants.{Restart}
use Rattle.calls.proofs.Steps.{row, unasked, asked, asked-last, last_none, last_some}
use Rattle.calls.proofs.asks.restart.Goals as goal

pub returns-then-line-next : goal.returns-then-line-next
unfolding restart_at as_call size_of Within
returns-then-line-next c =
    let v = c.in-Some.numbers.0 in
    let got = row c.numbers_at.ensures c.in-Some.is in
    asked-last (on-good _ got ∙ last_none _ _ _ _ c.if-line-next.true)
    (good-as (ap (λ (x : Settings). order (Restart x (get_or v 17 0) (get_or v 18 0))) (sym c.set_of.ensures)))
    (omega arith)
    tt

pub returns-in_default-field_at : goal.returns-in_default-field_at
unfolding restart_at
returns-in_default-field_at c =
    let got = row c.numbers_at.ensures c.in-Some.is in
    unasked (on-good _ got ∙ last_some _ _ _ _ c.if-line-next.false ∙ on-bad _ (num c.field_at.ensures c.in_default-field_at.is))

pub returns : goal.returns
unfolding restart_at as_call size_of Within
returns c =
    let v = c.in-Some.numbers.0 in
    let got = row c.numbers_at.ensures c.in-Some.is in
    let total = num c.field_at.ensures c.in-Some-field_at.is in
    asked c.ended.ensures (on-good _ got ∙ last_some _ _ _ _ c.if-line-next.false ∙ on-good _ total)
    (good-as (ap (λ (x : Settings). order (Restart x (get_or v 18 0) c.in-Some-field_at.total)) (sym c.set_of-2.ensures)))
    (omega arith)
    tt

pub returns-in_default : goal.returns-in_default
unfolding restart_at
returns-in_default c = unasked (on-bad _ (row c.numbers_at.ensures c.in_default.is))
