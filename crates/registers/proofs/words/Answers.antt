use mathlib.Core.Path.{◌≡◌, refl}
use mathlib.Core.Bool.{Bool, true, false}
use mir.Val.{bool_byte}
use Rattle.laws.specs.Pick.{pick}
use Rattle.registers.specs.Registers.{table_of}
use Rattle.registers.proofs.words.Goals as goal

-- a flag as a register
flag : (on : Bool) → bool_byte on ≡ pick on 1 0
unfolding pick
flag true = refl
flag false = refl

pub returns : goal.returns
unfolding table_of
returns c = rw (flag _)
