use mathlib.Core.Path.{sym}
use Rattle.channels.proofs.Laws.{unlike}
use Rattle.channels.proofs.mismatch.Goals as goal

pub returns : goal.returns
returns c = sym (unlike _ _ _)
