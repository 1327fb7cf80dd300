use mathlib.Core.Path.{refl}
use native.Mathlib.Omega.{arith}
use Rattle.asking.specs.Asking.{field_bytes, reply_bytes}
use Rattle.asking.proofs.data_of.Goals as goal

pub returns-in-Nothing : goal.returns-in-Nothing
unfolding reply_bytes
returns-in-Nothing c = record { full = refl; small = omega arith; front = rw c.in-Nothing.is }

pub returns-in-Byte : goal.returns-in-Byte
unfolding reply_bytes
returns-in-Byte c = record { full = refl; small = omega arith; front = rw c.in-Byte.is }

pub returns-in-Weight : goal.returns-in-Weight
unfolding reply_bytes field_bytes
returns-in-Weight c = record { full = refl; small = omega arith; front = rw c.in-Weight.is }
