use Rattle.lines.proofs.Moves.{moved}
use Rattle.lines.proofs.carry.Goals as goal

pub returns : goal.returns
returns c = moved c.min-end.ensures c.min-start.ensures c.copy_within.ensures.after
