use mathlib.Core.Path.{◌≡◌, ap, ◌∙◌}
use lib.IntN.{ℤ, pos}
use lib.Signed.{lt_z}
use mir.Syntax.{w64}
use mir.Val.{SFits}
use borrow.Author.Rules.{rules}
use Rattle.laws.specs.Pick.{pick_true, pick-false, so}
use Rattle.dosing.specs.Rules.{discharge}
use Rattle.dosing.proofs.Laws.{read_as}
use Rattle.dosing.proofs.discharge.Goals as goal
use Rattle.dosing.proofs.discharge.Goals.{After-below}

below-m : (c : After-below) → c.below.result ≡ lt_z c.args.t.w.v (pos c.args.set.level)
below-m c = let wide : SFits w64 c.widened.result = search rules in c.below.ensures ∙ ap (λ (x : ℤ). lt_z x (pos c.args.set.level)) (read_as c.widened.ensures wide)

pub returns-then-below : goal.returns-then-below
unfolding discharge
returns-then-below c = simp (c.completes.ensures, c.amount_of.ensures, so (below-m (goal.at.returns-then-below c).After-below) c.if-below.true, pick_true)

pub returns : goal.returns
unfolding discharge
returns c = simp (c.opens.ensures, so (below-m (goal.at.returns c).After-below) c.if-below.false, pick-false)
