use mathlib.Core.Path.{◌≡◌, ap, ◌∙◌}
use lib.IntN.{ℤ, pos}
use lib.Signed.{lt_z}
use mir.Syntax.{w64}
use mir.Val.{SFits}
use borrow.Author.Rules.{rules}
use Rattle.laws.specs.Pick.{pick_true, pick-false, so}
use Rattle.dosing.specs.Rules.{ready_to_dose}
use Rattle.dosing.proofs.Laws.{read_as}
use Rattle.dosing.proofs.ready_to_dose.Goals as goal
use Rattle.dosing.proofs.ready_to_dose.Goals.{After-below}

below-d : (c : After-below) → c.below.result ≡ lt_z c.args.t.w.v (pos c.args.set.dose)
below-d c = let wide : SFits w64 c.widened.result = search rules in c.below.ensures ∙ ap (λ (x : ℤ). lt_z x (pos c.args.set.dose)) (read_as c.widened.ensures wide)

pub returns-then-below : goal.returns-then-below
unfolding ready_to_dose
returns-then-below c = simp (c.opens.ensures, so (below-d (goal.at.returns-then-below c).After-below) c.if-below.true, pick_true)

pub returns-then-t : goal.returns-then-t
unfolding ready_to_dose
returns-then-t c = simp (c.dose_coarse.ensures, so (below-d (goal.at.returns-then-t c).After-below) c.if-below.false, c.if-t.true, pick_true, pick-false)

pub returns : goal.returns
unfolding ready_to_dose
returns c = simp (c.rests.ensures, so (below-d (goal.at.returns c).After-below) c.if-below.false, c.if-t.false, pick-false)
