use mathlib.Core.Path.{sym, ap, ◌∙◌}
use Rattle.clock.specs.Clock.{with_whole, with_known, lost_by, passed_by}
use Rattle.clock.proofs.Writing.{stays, passes}
use Rattle.clock.proofs.Clock.passed.Goals as goal

pub returns-in-Restarted : goal.returns-in-Restarted
unfolding passed_by
returns-in-Restarted c = let a = c.args in passes a.self a.heard (c.restarted.ensures ∙ sym (ap (passed_by a.self) c.in-Restarted.is))

pub returns-in-Lost : goal.returns-in-Lost
unfolding passed_by lost_by with_known with_whole
returns-in-Lost c = let a = c.args in passes a.self a.heard (sym (ap (passed_by a.self) c.in-Lost.is))

pub returns-in_default : goal.returns-in_default
returns-in_default c = let a = c.args in passes a.self a.heard (stays a.self a.heard c.in_default.not-Restarted c.in_default.not-Lost)
