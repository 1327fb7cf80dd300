use mathlib.Core.Path.{◌≡◌, ap, ◌∙◌}
use lib.IntN.{◌-ℤ◌}
use mir.Syntax.{w64}
use mir.Val.{SFits}
use borrow.Author.Rules.{rules}
use Rattle.laws.specs.Pick.{pick_true, pick-false, so}
use Rattle.dosing.specs.Rules.{reached_wf, dose_fine}
use Rattle.dosing.proofs.Laws.{read_as}
use Rattle.dosing.proofs.dose_fine.Goals as goal
use Rattle.dosing.proofs.dose_fine.Goals.{After-reached_wf}

at-wf : (c : After-reached_wf) → c.reached_wf.result ≡ reached_wf c.args.set (c.args.wh.v -ℤ c.args.t.w.v)
at-wf c = let wide : SFits w64 c.difference.result = search rules in c.reached_wf.ensures ∙ ap (reached_wf c.args.set) (read_as c.difference.ensures wide)

pub returns-then-reached_wf : goal.returns-then-reached_wf
unfolding dose_fine
returns-then-reached_wf c = simp (c.rests.ensures, so (at-wf (goal.at.returns-then-reached_wf c).After-reached_wf) c.if-reached_wf.true, pick_true)

pub returns : goal.returns
unfolding dose_fine
returns c = simp (c.opens.ensures, so (at-wf (goal.at.returns c).After-reached_wf) c.if-reached_wf.false, pick-false)
