-- One step of the check down the table. Assumes nothing.
use mathlib.Core.Path.{◌≡◌, refl, ap, ◌∙◌}
use mathlib.Core.Bool.{Bool, true, false, ◌||◌}
use mathlib.Core.List.{List, [], ◌∷◌, map}
use mathlib.Core.Logic.{◌⊎◌, inl, inr, ⊎_elim}
use Prim.Native.Nat.{ℕ, zero, suc, ◌+◌, ◌≤◌, ◌<◌}
use native.Mathlib.Nat.{le_of_suc-le-suc, not-suc-le-zero}
use native.Mathlib.Omega.{arith}
use native.Mathlib.Numerals.{add-one}
use lib.Dec.{ltb}
use lib.ListN.{length, get_or, drop, drop_of_length-le}
use lib.Seq.{drop-cons}
use borrow.Author.Tests.{ltb-true, ltb-false}
use Rattle.laws.specs.Bools.{or_left, or_right}
use Rattle.paper.specs.Answer.{Answer, done, refused}
use Rattle.paper.specs.Numbers.{R2}
use Rattle.settings.specs.Table.{Row, row, table, first_from, eighteen}
use Rattle.settings.specs.Named.{In, Out, goes_on, stops}
use Rattle.settings.specs.Columns.{value_of, range_of, bounds}
use Rattle.settings.specs.declared.Settings.{Settings}
use Rattle.settings.specs.declared.Range.{Range}

either : (a b : Bool) → (a || b) ≡ true → (a ≡ true) ⊎ (b ≡ true)
either true b e = inl refl
either false b e = inr e

-- a column of a table at a row
pub column : {A B : Type 0} (f : A → B) (e : B) (l : List A) (d : A) (i : ℕ) → i < length l → get_or (map f l) i e ≡ f (get_or l i d)
column f e [] d i h = absurd (not-suc-le-zero h)
column f e (r ∷ l) d zero h = refl
column f e (r ∷ l) d (suc i) h = column f e l d i (le_of_suc-le-suc h)

-- the answer of the rows from place i on
abbrev pub from_place : Settings → ℕ → Answer (Unit {0})
from_place s i = first_from (suc i) (drop i (table s))

abbrev pub row_at : Settings → ℕ → Row
row_at s i = get_or (table s) i (row 0 0 0)

module _ (s : Settings) (i : ℕ) (h : i < 18) where
  split : from_place s i ≡ first_from (suc i) (row_at s i ∷ drop (suc i) (table s))
  split = ap (first_from (suc i)) (drop-cons (table s) i (row 0 0 0) (omega (arith, eighteen s)))

  pub passed : In (row_at s i) → from_place s i ≡ from_place s (suc i)
  passed w = split ∙ goes_on (suc i) (row_at s i) (drop (suc i) (table s)) w

  pub named : Out (row_at s i) → from_place s i ≡ refused R2 ((i + 1) ∷ [])
  named w = rw add-one (split ∙ stops (suc i) (row_at s i) (drop (suc i) (table s)) w)

-- a value and a range that the code has read, as the row's
module _ (s : Settings) (i : ℕ) (h : i < 18) {values : List ℕ} {ranges : List Range} (v : values ≡ map value_of (table s)) (r : ranges ≡ map range_of (table s)) where
  value-at : get_or values i 0 ≡ (row_at s i).value
  value-at = rw v (column value_of 0 (table s) (row 0 0 0) i (omega (arith, eighteen s)))

  range_at : get_or ranges i (bounds 0 0) ≡ range_of (row_at s i)
  range_at = rw r (column range_of (bounds 0 0) (table s) (row 0 0 0) i (omega (arith, eighteen s)))

  abbrev value : ℕ
  value = get_or values i 0

  abbrev range : Range
  range = get_or ranges i (bounds 0 0)

  -- the test of the code
  abbrev beyond : Bool
  beyond = ltb value range.from || ltb range.to value

  pub in-at : beyond ≡ false → In (row_at s i)
  in-at e =
      let a = ltb-false value range.from (or_left (ltb value range.from) (ltb range.to value) e) in
      let b = ltb-false range.to value (or_right (ltb value range.from) (ltb range.to value) e) in
      (rw (value-at, range_at) at a, rw (value-at, range_at) at b)

  pub out_at : beyond ≡ true → Out (row_at s i)
  out_at e =
      ⊎_elim (λ a. inl (rw (value-at, range_at) at (ltb-true value range.from a)))
      (λ b. inr (rw (value-at, range_at) at (ltb-true range.to value b))) (either (ltb value range.from) (ltb range.to value) e)

pub ended : (s : Settings) (i : ℕ) → 18 ≤ i → from_place s i ≡ done tt
unfolding first_from
ended s i h = let l : length (table s) ≤ i = omega (arith, eighteen s) in rw (drop_of_length-le (table s) l) refl
