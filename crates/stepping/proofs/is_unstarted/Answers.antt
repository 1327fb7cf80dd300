use Rattle.stepping.specs.Stepping.{unstarted_of}
use Rattle.stepping.proofs.is_unstarted.Goals as goal

pub returns : goal.returns
unfolding unstarted_of
returns c = rw (c.at_ready-2.ensures, c.at_ready.ensures)
