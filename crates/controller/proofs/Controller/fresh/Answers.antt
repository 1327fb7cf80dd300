use mathlib.Core.Path.{◌∙◌}
use Rattle.controller.specs.State.{fresh_of}
use Rattle.controller.specs.Keeps.{fresh-sound}
use Rattle.controller.specs.Made.{made}
use Rattle.controller.proofs.Controller.fresh.Goals as goal

pub returns : goal.returns
unfolding fresh_of
returns c = made (c.made.ensures ∙ rw c.default.ensures) fresh-sound
