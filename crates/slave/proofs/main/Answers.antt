use mathlib.Core.Path.{sym}
use native.Mathlib.Omega.{arith}
use lib.Seq.{length-take-le}
use Rattle.lines.specs.Places.{carry-inside}
use Rattle.slave.proofs.main.Goals as goal

-- what was carried lies in the buffer
pub slice_bounds-input-end : goal.slice_bounds-input-end
slice_bounds-input-end c = let inside = carry-inside c.carry-held.ensures in omega (arith, inside.0, inside.1)

pub slice_bounds-serve-end : goal.slice_bounds-serve-end
slice_bounds-serve-end c = let inside = carry-inside c.carry-held.ensures in sym (length-take-le _ _ (omega (arith, inside.0, inside.1)))
