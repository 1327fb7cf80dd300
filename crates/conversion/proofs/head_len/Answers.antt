use mathlib.Core.Path.{◌≡◌, refl}
use lib.ListN.{length}
use Rattle.journal.specs.declared.Form.{Form}
use Rattle.journal.specs.declared.Form.TheVariants.{Old, New}
use Rattle.journal.specs.Line.{version_text}
use Rattle.journal.specs.Journal.{head_text}
use Rattle.conversion.proofs.head_len.Goals as goal

old-head : (f : Form) → f ≡ Old → 0 ≡ length (head_text f)
unfolding head_text
old-head f e = rw e refl

new-head : (f : Form) → f ≡ New → 4 ≡ length (head_text f)
unfolding head_text version_text
new-head f e = rw e refl

pub returns-in-Old : goal.returns-in-Old
returns-in-Old c = old-head _ c.in-Old.is

pub returns-in-New : goal.returns-in-New
returns-in-New c = new-head _ c.in-New.is
