use Rattle.setup.specs.Setup.{taken}
use Rattle.setup.proofs.taken.Goals as goal

pub returns : goal.returns
unfolding taken
returns c = simp c.new-c.ensures
