use mathlib.Core.Path.{◌≡◌, sym, ◌∙◌}
use mathlib.Core.Bool.{not, ◌||◌}
use Rattle.laws.specs.Pick.{pick-t, pick-f}
use Rattle.scale.specs.Scale.{equal_z, calm_by_mean}
use Rattle.scale.proofs.Laws.{equal_is, calm-again, calm-step}
use Rattle.scale.proofs.calm_by_mean.Goals as goal
use Rattle.scale.proofs.calm_by_mean.Goals.{Joined-first, then-first, else-first}

-- the test that was made
again : (c : Joined-first) → c.if-first.value ≡ (c.args.first || not (equal_z c.args.f.v c.args.previous.v))
again c =
    elim c.if-first.branch [
      | then-first w ↦ w.value-is ∙ rw w.if-first.true
      | else-first w ↦ w.value-is ∙ w.ne.ensures ∙ rw (w.if-first.false, equal_is)
    ]

pub returns-then-ne : goal.returns-then-ne
unfolding calm_by_mean
returns-then-ne c = sym (calm-again _ _ _ ∙ pick-t _ _ _ (sym (again (goal.at.returns-then-ne c).Joined-first) ∙ c.if-ne.true))

pub returns-else-ne : goal.returns-else-ne
unfolding calm_by_mean
returns-else-ne c =
    rw c.min.ensures (calm-step c.args.s)
    ∙ sym (calm-again _ _ _ ∙ pick-f _ _ _ (sym (again (goal.at.returns-else-ne c).Joined-first) ∙ c.if-ne.false))
