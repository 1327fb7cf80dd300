use mathlib.Core.Path.{refl}
use Rattle.journal.specs.Journal.{no_past}
use Rattle.journal.proofs.no_past.Goals as goal

pub returns : goal.returns
unfolding no_past
returns c = refl
