use mathlib.Core.Path.{◌≡◌, refl, sym, ap, ◌∙◌}
use mathlib.Core.List.{[]}
use native.Mathlib.Omega.{arith}
use lib.IntN.{ℤ}
use mir.Syntax.{w32}
use mir.Val.{SFits}
use mir.Facts.{to_z-of_z}
use Rattle.laws.specs.Pick.{pick_all}
use Rattle.laws.specs.Decimal.{good}
use Rattle.calls.specs.declared.Call as declared
use Rattle.calls.specs.Call.{tick, tick_at}
use Rattle.calls.specs.Reads.{as_call, size_of, Within}
use Rattle.operands.specs.Parsing.{on-good, on-bad, num, field-most}
use Rattle.calls.proofs.Steps.{step, unasked, asked}
use borrow.Author.Rules.{rules}
use Rattle.calls.proofs.asks.tick.Goals as goal

pub returns : goal.returns
unfolding tick_at as_call size_of Within
returns c =
    let fits : SFits w32 c.in-Some.sample = search rules in (
      asked c.ended.ensures
          (on-good _ (step c.signed_at.ensures c.in-Some.is) ∙ on-good _ (num c.field_at.ensures c.in-Some-field_at.is))
          (ap (λ (x : ℤ). good (tick x c.in-Some-field_at.inputs) []) (sym (to_z-of_z fits)))
          (omega arith)
          tt,
      ap size_of c.ended.ensures.is ∙ pick_all (λ (r : declared.Call). size_of r ≡ 0) _ refl refl,
    )

pub returns-in_default : goal.returns-in_default
unfolding tick_at size_of
returns-in_default c = (unasked (on-bad _ (step c.signed_at.ensures c.in_default.is)), refl)

pub returns-in_default-field_at : goal.returns-in_default-field_at
unfolding tick_at size_of
returns-in_default-field_at c = (unasked (on-good _ (step c.signed_at.ensures c.in-Some.is) ∙ on-bad _ (num c.field_at.ensures c.in_default-field_at.is)), refl)

pub overflow_cast-inputs : goal.overflow_cast-inputs
overflow_cast-inputs c = omega (arith, field-most _ _ (num c.field_at.ensures c.in-Some-field_at.is))
