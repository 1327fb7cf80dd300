use borrow.Author.Rules.{rules}
use Rattle.hourly.specs.Tally.{with_hole}
use Rattle.hourly.proofs.Settling.{setting-none, setting-more, setting-all}
use Rattle.hourly.proofs.with_holes.Goals as goal

pub loop-k-init : goal.loop-k-init
loop-k-init c = setting-none _ _ (search rules)

pub loop-k-preserved : goal.loop-k-preserved
unfolding with_hole
loop-k-preserved c = setting-more _ _ _ _ c.loop-k.invariant (search rules)

pub returns : goal.returns
returns c = setting-all _ _ _ _ c.loop-k.invariant (search rules)
