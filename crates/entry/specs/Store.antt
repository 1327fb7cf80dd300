-- What the writer's own steps leave. Assumes nothing.
use Rattle.std.specs.Prelude.{◌≡◌, List, ℕ, ◌+◌, ◌≤◌, length}
use Rattle.std.proofs.lemmas.List.Edits.{sets}
use Rattle.laws.specs.Decimal.{decimal}
use Rattle.journal.specs.LineLaws.{product_text}
use Rattle.journal.specs.declared.Form.{Form}

-- a tab and a number take r bytes; a u32 has at most 10 digits
pub record FieldLength (v r : ℕ) : Type 0 where
  pub is : r ≡ 1 + length (decimal v)
  pub most : r ≤ 11

-- a dose's product takes r bytes, none in the old form
pub record ProductLength (f : Form) (p r : ℕ) : Type 0 where
  pub is : r ≡ length (product_text f p)
  pub most : r ≤ 11

-- the text stands at a place, everything else is as it was, and the place after it is answered
pub record Stores (old : List ℕ) (at : ℕ) (text new : List ℕ) (r : ℕ) : Type 0 where
  pub left : new ≡ sets old at text
  pub next : r ≡ at + length text
