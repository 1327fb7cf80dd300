-- From the number at a line's start to the product. Assumes nothing.
use mathlib.Core.Path.{◌≡◌, sym, ap, ◌∙◌}
use mathlib.Core.List.{List}
use Prim.Native.Nat.{ℕ, ◌≤◌, ◌<◌}
use lib.ListN.{length, drop_of_length-le}
use lib.Seq.{drop-cons}
use Rattle.std.specs.Prelude.{Some, None}
use Rattle.laws.specs.Decimal.{good}
use Rattle.laws.specs.DecimalLaws.{number-only}
use Rattle.text.specs.Scan.{Num, leads, ReadsNumber}
use Rattle.chosen.specs.Choice.{alone, product_line}
use Rattle.chosen.specs.Says.{says_choice}

module _ (s : List ℕ) (n : Num) (r : ReadsNumber s 0 255 n) where
  -- the line's product is what the reader found
  found : (m : Num) → n ≡ m → product_line s ≡ alone (leads s m)
  unfolding product_line
  found m e = ap alone (r.reads ∙ ap (leads s) e)

  pub none : n ≡ None → says_choice None ≡ product_line s
  unfolding alone
  none e = sym (found None e)

  pub more : (v next : ℕ) → n ≡ Some (v, next) → next < length s → says_choice None ≡ product_line s
  unfolding alone
  more v next e h = sym (found (Some (v, next)) e ∙ ap (λ (l : List ℕ). alone (good v l)) (drop-cons s next 0 h))

  pub only : (v next : ℕ) → n ≡ Some (v, next) → length s ≤ next → says_choice (Some v) ≡ product_line s
  unfolding alone
  only v next e h = sym (found (Some (v, next)) e ∙ ap (λ (l : List ℕ). alone (good v l)) (drop_of_length-le s {i = next} h))

  -- it is a byte
  pub small : (v next : ℕ) → n ≡ Some (v, next) → v ≤ 255
  small v next e = (number-only 255 _ v _ (r.reads ∙ ap (leads s) e)).1
