use mathlib.Core.Path.{refl, sym, ap₂, ◌∙◌}
use native.Mathlib.Omega.{arith}
use borrow.Author.Tests.{eq-eqb, ne_eqb}
use Rattle.laws.specs.Pick.{pick-t, pick-f}
use Rattle.modbus.specs.Asks.{read_ask, write_ask, ask_by}
use Rattle.modbus.proofs.asks.ask_by.Goals as goal

pub returns-in-3 : goal.returns-in-3
unfolding ask_by
returns-in-3 c =
    c.read_ask.ensures
    ∙ ap₂ read_ask c.word_at.ensures c.word_at-in-3.ensures
    ∙ sym (pick-t _ _ _ (eq-eqb _ _ c.in-3.is))

pub returns-in-6 : goal.returns-in-6
unfolding ask_by
returns-in-6 c =
    c.write_ask.ensures
    ∙ ap₂ write_ask c.word_at-in-6.ensures c.word_at-in-6-2.ensures
    ∙ rw c.in-6.is (sym (pick-f _ _ _ refl ∙ pick-t _ _ _ refl))

pub returns-in_default : goal.returns-in_default
unfolding ask_by
returns-in_default c =
    c.exception_of.ensures
    ∙ sym (pick-f _ _ _ (ne_eqb _ _ (λ e. omega arith)) ∙ pick-f _ _ _ (ne_eqb _ _ (λ e. omega arith)))
