use Rattle.scale.specs.Scale.{seen_by}
use Rattle.scale.proofs.see.Goals as goal

pub returns : goal.returns
unfolding seen_by
returns c = rw (c.stable_of.ensures, c.narrow_net.ensures)
