use mathlib.Core.Path.{refl}
use native.Mathlib.Omega.{arith}
use Rattle.field.specs.Field.{field_of}
use Rattle.field.specs.RoundTrip.{six-digits, point-most}
use Rattle.field.proofs.field_of.Goals as goal

pub bcd_of-requires-3 : goal.bcd_of-requires-3
bcd_of-requires-3 c = omega (arith, c.requires.0, six-digits c.args.v c.requires.1)

pub con_of-requires : goal.con_of-requires
con_of-requires c = point-most c.args.v c.requires.1

pub returns : goal.returns
unfolding field_of
returns c =
    rw (c.bcd_of.ensures, c.bcd_of-2.ensures, c.bcd_of-3.ensures, c.con_of.ensures, c.requires.0) refl
