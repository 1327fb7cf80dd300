use mathlib.Core.Path.{◌≡◌, refl}
use mathlib.Core.List.{List, ◌∷◌}
use Prim.Native.Nat.{ℕ, ◌+◌, ◌≤◌}
use native.Mathlib.Omega.{arith}
use lib.ListN.{length}
use lib.Seq.{sets}
use Rattle.laws.specs.Decimal.{decimal}
use Rattle.text.specs.Scan.{TAB}
use Rattle.journal.specs.LineLaws.{product_text}
use Rattle.journal.specs.declared.Form.{Form}
use Rattle.journal.specs.declared.Form.TheVariants.{Old, New}
use Rattle.entry.specs.Store.{Stores}
use Rattle.entry.proofs.store_product.Goals as goal

-- an old line has no product
none : (f : Form) (p at : ℕ) (old : List ℕ) → f ≡ Old → Stores old at (product_text f p) old at
unfolding product_text sets
none f p at old e = rw e (record { left = refl; next = omega arith })

room : (f : Form) (p at size : ℕ) → f ≡ New → at + length (product_text f p) ≤ size → at + (1 + length (decimal p)) ≤ size
unfolding product_text
room f p at size e = rw e (λ h. omega arith)

one : (f : Form) (p at r : ℕ) (old new : List ℕ) → f ≡ New → Stores old at (TAB ∷ decimal p) new r → Stores old at (product_text f p) new r
unfolding product_text
one f p at r old new e s = rw e s

pub store_field-requires : goal.store_field-requires
store_field-requires c = room _ _ _ _ c.in-New.is c.requires

pub returns-in-Old : goal.returns-in-Old
returns-in-Old c = none _ _ _ _ c.in-Old.is

pub returns-in-New : goal.returns-in-New
returns-in-New c = one _ _ _ _ _ _ c.in-New.is c.store_field.ensures
