use mathlib.Core.Path.{◌≡◌, refl, ◌∙◌}
use mir.Syntax.{w32}
use mir.Val.{to_z, of_z, SFits}
use mir.Facts.{to_z-of_z}
use borrow.Author.Rules.{rules}
use Rattle.field.specs.Field.{weight_of, value_of}
use Rattle.field.proofs.weight_of.Goals as goal

pub overflow_mul-size : goal.overflow_mul-size
unfolding value_of
overflow_mul-size c = search rules

pub overflow_add-size : goal.overflow_add-size
unfolding value_of
overflow_add-size c = search rules

pub overflow_mul-size-2 : goal.overflow_mul-size-2
unfolding value_of
overflow_mul-size-2 c = search rules

pub overflow_add-size-2 : goal.overflow_add-size-2
unfolding value_of
overflow_add-size-2 c = search rules

pub with_sign-requires : goal.with_sign-requires
unfolding value_of
with_sign-requires c = search rules

pub returns : goal.returns
unfolding weight_of
returns c =
    let fits : SFits w32 c.with_sign.result = search rules in
    let value : to_z w32 (of_z w32 c.with_sign.result) ≡ _ = to_z-of_z fits ∙ c.with_sign.ensures in
    rw (value, c.has_bit.ensures, c.has_bit-2.ensures, c.has_bit-3.ensures, c.value_of-3.ensures, c.value_of-2.ensures, c.value_of.ensures) refl
