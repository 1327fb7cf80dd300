-- What the lines of a script were, run on answers. Assumes nothing.
use Rattle.std.specs.Prelude.{◌≡◌, refl, []}
use Rattle.paper.specs.Answer.{refused, fault}
use Rattle.clock.specs.declared.Heard.TheVariants.{Ticked, Other}
use Rattle.recorder.specs.Recording.{heard_tick, heard_restart}

-- R1 is not counted, a tick in a fault is; a refused restart changes nothing
pub ticks-heard : (heard_tick (refused 1 []) ≡ Other) × (heard_tick (fault 21 []) ≡ Ticked) × (heard_restart (refused 15 []) ≡ Other)
unfolding heard_tick heard_restart
ticks-heard = (refl, refl, refl)
