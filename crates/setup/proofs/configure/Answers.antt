use mathlib.Core.Path.{refl, sym, ap, ◌∙◌}
use Rattle.laws.specs.Pick.{pick-t, pick-f, so}
use Rattle.settings.specs.Says.{says}
use Rattle.controller.specs.Ready.{is_ready}
use Rattle.setup.specs.Setup.{settings_answer, after}
use Rattle.setup.proofs.Contracts.{sets, turned_down}
use Rattle.setup.proofs.configure.Goals as goal

-- R3
pub returns-then-not-is_ready : goal.returns-then-not-is_ready
unfolding is_ready settings_answer after
returns-then-not-is_ready c =
    sets _ _ c.requires (pick-f _ _ _ (so c.is_ready.ensures c.if-not-is_ready.true)) refl refl

pub returns-in-Ok : goal.returns-in-Ok
unfolding is_ready settings_answer after
returns-in-Ok c =
    sets _ _ c.requires (pick-t _ _ _ (so c.is_ready.ensures c.if-not-is_ready.false) ∙ sym c.check.ensures ∙ ap says c.in-Ok.is) c.taken.ensures refl

-- R2
pub returns-in-Err : goal.returns-in-Err
unfolding is_ready settings_answer
returns-in-Err c =
    rw c.from.ensures (turned_down _ _ c.in-Err.error c.requires
    (pick-t _ _ _ (so c.is_ready.ensures c.if-not-is_ready.false) ∙ sym c.check.ensures ∙ ap says c.in-Err.is))
