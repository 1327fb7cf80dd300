use mathlib.Core.Path.{◌≡◌, ap, ◌∙◌}
use lib.IntN.{ℤ}
use lib.ListN.{length}
use mir.Syntax.{w32}
use mir.Val.{SFits}
use mir.Facts.{to_z-of_z}
use borrow.Author.Rules.{rules}
use Rattle.window.specs.Window.{push_of}
use Rattle.controller.proofs.Steps.{Kept, kept-so, mean-small, reached, not-reached}
use Rattle.controller.proofs.tick.steps4to8.Goals as goal
use Rattle.controller.proofs.tick.steps4to8.Goals.{After-sample-to}

-- the samples lent are the window's, and the sample is kept
sampled : (c : After-sample-to) → Kept c.kept-c.result c.args.x.v c.push-window.result c.sample-to.result
sampled c =
    let told : SFits w32 c.args.x.v = search rules in
    let lent : length c.push-window.result.samples ≡ 128 = search rules in
    let pushed = c.push-window.ensures ∙ ap (λ (z : ℤ). push_of c.kept-c.result.window z) (to_z-of_z told) in
    kept-so c.args.c c.args.inputs c.kept-c.ensures c.requires.sound c.args.x.v c.push-window.result lent pushed c.sample-to.ensures

pub steps7and8-requires : goal.steps7and8-requires
steps7and8-requires c =
    mean-small c.args.c c.args.inputs c.kept-c.ensures c.requires.sound c.args.x c.requires.inside (sampled (goal.at.steps7and8-requires c).After-sample-to)

-- F14
pub returns-in-Some : goal.returns-in-Some
returns-in-Some c =
    reached c.args.c c.args.x.v c.args.inputs c.reached.result c.requires.inside c.kept-c.ensures (sampled (goal.at.returns-in-Some c).After-sample-to) c.start_of-start.ensures c.runs_after-runs.ensures c.reached.ensures c.in-Some.is c.faulted.ensures

pub returns-in-None : goal.returns-in-None
returns-in-None c =
    not-reached c.args.c c.args.x.v c.args.inputs c.reached.result c.requires.inside c.kept-c.ensures (sampled (goal.at.returns-in-None c).After-sample-to) c.start_of-start.ensures c.runs_after-runs.ensures c.reached.ensures c.in-None.is c.steps7and8.ensures
