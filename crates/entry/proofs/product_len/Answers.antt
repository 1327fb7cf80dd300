use mathlib.Core.Path.{◌≡◌}
use Prim.Native.Nat.{ℕ}
use native.Mathlib.Omega.{arith}
use Rattle.journal.specs.LineLaws.{product_text}
use Rattle.journal.specs.declared.Form.{Form}
use Rattle.journal.specs.declared.Form.TheVariants.{Old, New}
use Rattle.entry.specs.Store.{FieldLength, ProductLength}
use Rattle.entry.proofs.product_len.Goals as goal

none : (f : Form) (p : ℕ) → f ≡ Old → ProductLength f p 0
unfolding product_text
none f p e = rw e (record { is = omega arith; most = omega arith })

one : (f : Form) (p r : ℕ) → f ≡ New → FieldLength p r → ProductLength f p r
unfolding product_text
one f p r e l = rw e (record { is = omega (arith, l.is); most = l.most })

pub returns-in-Old : goal.returns-in-Old
returns-in-Old c = none _ _ c.in-Old.is

pub returns-in-New : goal.returns-in-New
returns-in-New c = one _ _ _ c.in-New.is c.field_len.ensures
