use mathlib.Core.Path.{sym, ap, ◌∙◌}
use mathlib.Core.List.{[]}
use native.Mathlib.Omega.{arith}
use lib.Dec.{eqb}
use lib.IntN.{ℤ}
use mir.Syntax.{w32}
use mir.Val.{SFits}
use mir.Facts.{to_z-of_z}
use Rattle.laws.specs.Decimal.{good}
use Rattle.field.specs.Field.{weight}
use Rattle.calls.specs.Call.{item, flag_field, write_field_at}
use Rattle.calls.specs.Reads.{as_call, size_of, Within}
use Rattle.operands.specs.Parsing.{on-good, on-bad, num, field-most}
use Rattle.calls.specs.declared.Item.TheVariants.{Weight}
use Rattle.calls.proofs.Steps.{step, unasked, asked}
use borrow.Author.Rules.{rules}
use Rattle.calls.proofs.asks.weight.Goals as goal

pub returns : goal.returns
unfolding write_field_at flag_field as_call size_of Within
returns c =
    let fits : SFits w32 c.in-Some.value = search rules in
    asked c.ended.ensures
    (on-good _ (step c.signed_at.ensures c.in-Some.is) ∙ on-good _ (on-good _ (num c.field_at.ensures c.in-Some-field_at.is)) ∙ on-good _ (on-good _ (num c.field_at-2.ensures c.in-Some-field_at-2.is)) ∙ on-good _ (num c.field_at-3.ensures c.in-Some-field_at-3.is))
    (ap (λ (x : ℤ). good (item (Weight (weight x (eqb c.in-Some-field_at.stable 1) (eqb c.in-Some-field_at-2.over 1) c.in-Some-field_at-3.point))) []) (sym (to_z-of_z fits)))
    (omega arith)
    tt

pub returns-in_default : goal.returns-in_default
unfolding write_field_at
returns-in_default c = unasked (on-bad _ (step c.signed_at.ensures c.in_default.is))

pub returns-in_default-field_at : goal.returns-in_default-field_at
unfolding write_field_at flag_field
returns-in_default-field_at c = unasked (on-good _ (step c.signed_at.ensures c.in-Some.is) ∙ on-bad _ (on-bad _ (num c.field_at.ensures c.in_default-field_at.is)))

pub returns-in_default-field_at-2 : goal.returns-in_default-field_at-2
unfolding write_field_at flag_field
returns-in_default-field_at-2 c = unasked (on-good _ (step c.signed_at.ensures c.in-Some.is) ∙ on-good _ (on-good _ (num c.field_at.ensures c.in-Some-field_at.is)) ∙ on-bad _ (on-bad _ (num c.field_at-2.ensures c.in_default-field_at-2.is)))

pub returns-in_default-field_at-3 : goal.returns-in_default-field_at-3
unfolding write_field_at flag_field
returns-in_default-field_at-3 c = unasked (on-good _ (step c.signed_at.ensures c.in-Some.is) ∙ on-good _ (on-good _ (num c.field_at.ensures c.in-Some-field_at.is)) ∙ on-good _ (on-good _ (num c.field_at-2.ensures c.in-Some-field_at-2.is)) ∙ on-bad _ (num c.field_at-3.ensures c.in_default-field_at-3.is))

pub overflow_cast-weight : goal.overflow_cast-weight
overflow_cast-weight c = omega (arith, field-most _ _ (num c.field_at-3.ensures c.in-Some-field_at-3.is))
