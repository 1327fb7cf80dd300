-- From the number at a line's start to the first hour. Assumes nothing.
use mathlib.Core.Path.{◌≡◌, sym, ap, ◌∙◌}
use mathlib.Core.List.{List}
use Prim.Native.Nat.{ℕ, ◌≤◌, ◌<◌}
use lib.ListN.{length, drop_of_length-le}
use lib.Seq.{drop-cons}
use Rattle.laws.specs.Decimal.{good}
use Rattle.text.specs.Scan.{Num, leads, ReadsNumber}
use Rattle.std.specs.Prelude.{Some, None}
use Rattle.sheet.specs.Lines.{first_from, first_line}
use Rattle.sheet.specs.Says.{says_first}

module _ (s : List ℕ) (n : Num) (r : ReadsNumber s 0 9999832 n) where
  -- the line's first hour is what the reader found
  found : (m : Num) → n ≡ m → first_line s ≡ first_from (leads s m)
  unfolding first_line
  found m e = ap first_from (r.reads ∙ ap (leads s) e)

  pub none : n ≡ None → says_first None ≡ first_line s
  unfolding first_from
  none e = sym (found None e)

  pub more : (v next : ℕ) → n ≡ Some (v, next) → next < length s → says_first None ≡ first_line s
  unfolding first_from
  more v next e h = sym (found (Some (v, next)) e ∙ ap (λ (l : List ℕ). first_from (good v l)) (drop-cons s next 0 h))

  pub alone : (v next : ℕ) → n ≡ Some (v, next) → length s ≤ next → says_first (Some v) ≡ first_line s
  unfolding first_from
  alone v next e h = sym (found (Some (v, next)) e ∙ ap (λ (l : List ℕ). first_from (good v l)) (drop_of_length-le s {i = next} h))
