use mir.Facts.{to_z-of_z}
use Rattle.window.proofs.Shift.{pushed}
use Rattle.window.proofs.Window.push.Goals as goal

pub returns : goal.returns
returns c = pushed c.args.self c.args.x _ _ _ c.copy_from_slice.ensures.after (to_z-of_z c.ranges.x) c.min.ensures
