use mathlib.Core.Path.{◌≡◌, ap, ◌∙◌}
use lib.IntN.{◌-ℤ◌}
use mir.Syntax.{w64}
use mir.Val.{SFits}
use borrow.Author.Rules.{rules}
use Rattle.laws.specs.Pick.{pick_true, pick-false, so}
use Rattle.dosing.specs.Rules.{reached_wf, reached_wc, dose_coarse}
use Rattle.dosing.proofs.Laws.{read_as}
use Rattle.dosing.proofs.dose_coarse.Goals as goal
use Rattle.dosing.proofs.dose_coarse.Goals.{After-reached_wc, After-reached_wf}

at-wf : (c : After-reached_wf) → c.reached_wf.result ≡ reached_wf c.args.set (c.args.wh.v -ℤ c.args.t.w.v)
at-wf c = let wide : SFits w64 c.difference-x.result = search rules in c.reached_wf.ensures ∙ ap (reached_wf c.args.set) (read_as c.difference-x.ensures wide)

at-wc : (c : After-reached_wc) → c.reached_wc.result ≡ reached_wc c.args.set (c.args.wh.v -ℤ c.args.t.w.v)
at-wc c = let wide : SFits w64 c.difference-x.result = search rules in c.reached_wc.ensures ∙ ap (reached_wc c.args.set) (read_as c.difference-x.ensures wide)

pub returns-then-reached_wf : goal.returns-then-reached_wf
unfolding dose_coarse
returns-then-reached_wf c = simp (c.rests.ensures, so (at-wf (goal.at.returns-then-reached_wf c).After-reached_wf) c.if-reached_wf.true, pick_true)

pub returns-then-reached_wc : goal.returns-then-reached_wc
unfolding dose_coarse
returns-then-reached_wc c = simp (c.opens.ensures, so (at-wf (goal.at.returns-then-reached_wc c).After-reached_wf) c.if-reached_wf.false, so (at-wc (goal.at.returns-then-reached_wc c).After-reached_wc) c.if-reached_wc.true, pick_true, pick-false)

pub returns : goal.returns
unfolding dose_coarse
returns c = simp (c.opens-2.ensures, so (at-wf (goal.at.returns c).After-reached_wf) c.if-reached_wf.false, so (at-wc (goal.at.returns c).After-reached_wc) c.if-reached_wc.false, pick-false)
