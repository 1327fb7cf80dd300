-- The marks of the holes set in the tallies. Assumes nothing.
use mathlib.Core.Path.{◌≡◌, refl, sym, ap, ◌∙◌}
use mathlib.Core.Bool.{Bool, false}
use mathlib.Core.List.{List}
use Prim.Native.Nat.{ℕ, ◌+◌, ◌≤◌, ◌<◌}
use native.Mathlib.Omega.{arith}
use native.Mathlib.Decide.{ℕ_discrete}
use lib.ListN.{length, get_or, set, length-set}
use lib.Seq.{get_or-set_same, get_or-set_other}
use Rattle.journal.specs.declared.Line.{Line}
use Rattle.holes.specs.Marks.{Marks}
use Rattle.hourly.specs.Tally.{outside, unmarked_of, tally_of, with_hole, Unmarked, Tells, Sets}
use Rattle.hourly.specs.declared.Products.{Products}
use Rattle.hourly.specs.declared.Tally.{Tally}

-- those before k are set
pub record Setting (table : List Tally) (holed : List Bool) (k : ℕ) (new : List Tally) : Type 0 where
  pub size : length new ≡ 744
  pub set : (j : ℕ) → j < k → get_or new j outside ≡ with_hole (get_or table j outside) (get_or holed j false)
  pub left : (j : ℕ) → k ≤ j → get_or new j outside ≡ get_or table j outside

pub setting-none : (table : List Tally) (holed : List Bool) → length table ≡ 744 → Setting table holed 0 table
setting-none table holed n = record { size = n; set = λ j h. absurd (omega arith); left = λ j h. refl }

pub setting-more : (table : List Tally) (holed : List Bool) (k : ℕ) (new : List Tally) → Setting table holed k new → k < 744 → Setting table holed (k + 1) (set new k (with_hole (get_or new k outside) (get_or holed k false)))
setting-more table holed k new s h =
    record {
      size = length-set new k _ ∙ s.size;
      set = λ j i. go j i (ℕ_discrete k j);
      left = λ j i. get_or-set_other new k j (with_hole (get_or new k outside) (get_or holed k false)) outside (λ e. omega arith) ∙ s.left j (omega arith);
    }
  where
    go : (j : ℕ) → j < k + 1 → Dec (k ≡ j) → get_or (set new k (with_hole (get_or new k outside) (get_or holed k false))) j outside ≡ with_hole (get_or table j outside) (get_or holed j false)
    go j i (yes e) =
        ap (λ (x : ℕ). get_or (set new k (with_hole (get_or new k outside) (get_or holed k false))) x outside) (sym e)
        ∙ get_or-set_same new k (with_hole (get_or new k outside) (get_or holed k false)) outside (omega (arith, s.size))
        ∙ ap (λ (t : Tally). with_hole t (get_or holed k false)) (s.left k (omega arith))
        ∙ ap (λ (x : ℕ). with_hole (get_or table x outside) (get_or holed x false)) e
    go j i (no n) = get_or-set_other new k j (with_hole (get_or new k outside) (get_or holed k false)) outside (λ e. n (sym e)) ∙ s.set j (omega arith)

pub setting-all : (table : List Tally) (holed : List Bool) (k : ℕ) (new : List Tally) → Setting table holed k new → 744 ≤ k → Sets table holed new
setting-all table holed k new s h = record { size = s.size; at = λ j i. s.set j (omega arith) }

-- with them the table tells all of the lines
pub sets-tell : (w : Products) (table new : List Tally) (holed : List Bool) (first : ℕ) (ls : List Line) → Unmarked w table first ls → Marks holed first ls → Sets table holed new → Tells w new first ls
unfolding unmarked_of tally_of with_hole
sets-tell w table new holed first ls u m s =
    record {
      size = s.size;
      at = λ k b. s.at k b ∙ ap (λ (t : Tally). with_hole t (get_or holed k false)) (u.at k b) ∙ ap (with_hole (unmarked_of w ls (first + k))) (m.at k b);
    }
