use mathlib.Core.Path.{◌≡◌, refl}
use mathlib.Core.Bool.{Bool, true, false}
use mir.Val.{bool_byte}
use Rattle.laws.specs.Pick.{pick}
use Rattle.counters.specs.Counters.{record_of}
use Rattle.counters.proofs.record_of.Goals as goal

-- 1 or 0 for a flag
bit : (b : Bool) → bool_byte b ≡ pick b 1 0
unfolding pick
bit true = refl
bit false = refl

pub returns : goal.returns
unfolding record_of
returns c = rw (c.from.ensures, bit c.args.settled)
