use mathlib.Core.Path.{◌≡◌, ap}
use mathlib.Core.List.{[]}
use native.Mathlib.Omega.{arith}
use lib.ListN.{length}
use Rattle.journal.specs.declared.Form.{Form}
use Rattle.journal.specs.declared.Form.TheVariants.{Old, New}
use Rattle.journal.specs.Line.{version_text}
use Rattle.journal.specs.Journal.{head_text}
use Rattle.conversion.proofs.Pieces.{puts-as, puts-nothing}
use Rattle.conversion.proofs.put_head.Goals as goal

old-head : (f : Form) → f ≡ Old → head_text f ≡ []
unfolding head_text
old-head f e = ap head_text e

new-head : (f : Form) → f ≡ New → head_text f ≡ version_text
unfolding head_text
new-head f e = ap head_text e

pub put_version-requires : goal.put_version-requires
put_version-requires c = omega (arith, ap length (new-head _ c.in-New.is), c.requires)

pub returns-in-Old : goal.returns-in-Old
returns-in-Old c = puts-as (old-head _ c.in-Old.is) (puts-nothing _ 0 (omega arith))

pub returns-in-New : goal.returns-in-New
returns-in-New c = puts-as (new-head _ c.in-New.is) c.put_version.ensures
