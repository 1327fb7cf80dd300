use mathlib.Core.Path.{◌≡◌, ap, ◌∙◌}
use lib.IntN.{pos}
use lib.Signed.{le_z}
use mir.Syntax.{w64}
use mir.Val.{SFits}
use borrow.Author.Rules.{rules}
use Rattle.laws.specs.Pick.{pick_true, pick-false, so}
use Rattle.dosing.specs.Rules.{load}
use Rattle.dosing.proofs.Laws.{read_as}
use Rattle.dosing.proofs.load.Goals as goal
use Rattle.dosing.proofs.load.Goals.{After-at_least}

from-m : (c : After-at_least) → c.at_least.result ≡ le_z (pos c.args.set.level) c.args.t.w.v
from-m c = let wide : SFits w64 c.widened.result = search rules in c.at_least.ensures ∙ ap (le_z (pos c.args.set.level)) (read_as c.widened.ensures wide)

pub returns-then-at_least : goal.returns-then-at_least
unfolding load
returns-then-at_least c = simp (c.rests.ensures, so (from-m (goal.at.returns-then-at_least c).After-at_least) c.if-at_least.true, pick_true)

pub returns : goal.returns
unfolding load
returns c = simp (c.opens.ensures, so (from-m (goal.at.returns c).After-at_least) c.if-at_least.false, pick-false)
