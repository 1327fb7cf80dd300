use mathlib.Core.Path.{◌≡◌, ap, ◌∙◌}
use mir.Syntax.{w64}
use mir.Val.{SFits}
use borrow.Author.Rules.{rules}
use Rattle.laws.specs.Pick.{pick_true, pick-false, so}
use Rattle.dosing.specs.Rules.{reached_wf, fine_stage}
use Rattle.dosing.proofs.Laws.{read_as}
use Rattle.dosing.proofs.fine_stage.Goals as goal
use Rattle.dosing.proofs.fine_stage.Goals.{After-reached_wf}

at-wf : (c : After-reached_wf) → c.reached_wf.result ≡ reached_wf c.args.set c.args.t.w.v
at-wf c = let wide : SFits w64 c.widened-x.result = search rules in c.reached_wf.ensures ∙ ap (reached_wf c.args.set) (read_as c.widened-x.ensures wide)

pub returns-then-reached_wf : goal.returns-then-reached_wf
unfolding fine_stage
returns-then-reached_wf c = simp (c.rests.ensures, c.full.ensures, so (at-wf (goal.at.returns-then-reached_wf c).After-reached_wf) c.if-reached_wf.true, pick_true)

pub returns : goal.returns
unfolding fine_stage
returns c = simp (c.opens.ensures, so (at-wf (goal.at.returns c).After-reached_wf) c.if-reached_wf.false, pick-false)
