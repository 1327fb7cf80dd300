use Rattle.laws.specs.Pick.{picks}
use Rattle.dosing.specs.Rules.{full}
use Rattle.dosing.proofs.full.Goals as goal

pub returns-then-set-eq0 : goal.returns-then-set-eq0
unfolding full
returns-then-set-eq0 c = search picks

pub returns : goal.returns
unfolding full
returns c = search picks
