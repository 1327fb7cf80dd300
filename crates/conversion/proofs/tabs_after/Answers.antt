use Rattle.laws.specs.Pick.{picks}
use Rattle.conversion.specs.Bytes.{tabs_after}
use Rattle.conversion.proofs.tabs_after.Goals as goal

pub returns-then-b-eq-LF : goal.returns-then-b-eq-LF
unfolding tabs_after
returns-then-b-eq-LF c = search picks

pub returns-then-b-eq-TAB : goal.returns-then-b-eq-TAB
unfolding tabs_after
returns-then-b-eq-TAB c = search picks

pub returns : goal.returns
unfolding tabs_after
returns c = search picks
