use mathlib.Core.Path.{refl}
use Rattle.series.specs.Events.{run}
use Rattle.acts.specs.Acts.{events_in, made_by, said_to}
use Rattle.acts.specs.Makes.{says_act}
use Rattle.acts.proofs.unread.Goals as goal

pub returns : goal.returns
unfolding made_by events_in run said_to says_act
returns c = record { made = record { next = refl; sound = c.requires }; says = refl }
