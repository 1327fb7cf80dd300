use mathlib.Core.Path.{refl, ◌∙◌}
use native.Mathlib.Omega.{arith}
use Rattle.calls.specs.Call.{dose_at}
use Rattle.calls.specs.Reads.{as_call, size_of, Within}
use Rattle.operands.specs.Parsing.{on-good, on-bad, num}
use Rattle.calls.proofs.Steps.{row, unasked, asked}
use Rattle.calls.proofs.asks.dose.Goals as goal

pub returns : goal.returns
unfolding dose_at as_call size_of Within
returns c =
    let room = num c.field_at.ensures c.in-Some-field_at.is in
    asked c.ended.ensures
    (on-good _ (row c.numbers_at.ensures c.in-Some.is) ∙ on-good _ room)
    refl
    (omega arith)
    tt

pub returns-in_default : goal.returns-in_default
unfolding dose_at
returns-in_default c = unasked (on-bad _ (row c.numbers_at.ensures c.in_default.is))

pub returns-in_default-field_at : goal.returns-in_default-field_at
unfolding dose_at
returns-in_default-field_at c = unasked (on-good _ (row c.numbers_at.ensures c.in-Some.is) ∙ on-bad _ (num c.field_at.ensures c.in_default-field_at.is))
