use Rattle.frame.specs.Frame.{framable}
use Rattle.frame.proofs.framable.Goals as goal

pub returns : goal.returns
unfolding framable
returns c = rw (c.first-first.ensures, c.fewest.ensures)
