-- Whether a count follows, and the marks of a hole's hours. Assumes nothing.
use mathlib.Core.Path.{◌≡◌, refl, sym, ap, ◌∙◌}
use mathlib.Core.Bool.{Bool, true, false, not, ◌&&◌, ◌||◌, or-false}
use mathlib.Core.List.{List}
use Prim.Native.Nat.{ℕ, ◌+◌, ◌-◌, ◌≤◌, ◌<◌}
use native.Mathlib.Omega.{arith}
use native.Mathlib.Decide.{ℕ_discrete}
use lib.Dec.{eqb, leb}
use lib.ListN.{get_or}
use borrow.Author.Tests.{eq-eqb, ne_eqb, le-leb, lt-leb, leb-true, leb-false}
use Rattle.laws.specs.Pick.{pick-t, pick-f}
use Rattle.journal.specs.declared.Line.{Line}
use Rattle.journal.specs.declared.Line.TheVariants.{Dose, On}
use Rattle.holes.specs.Holes.{Before, next_count, follows, ends_hole}
use Rattle.holes.specs.Marks.{Adds, AddsHole}
use Rattle.std.specs.Prelude.{Some, None}

-- ---- a count that follows

pub turn_one : (before count : ℕ) → count ≡ 1 → true ≡ follows before count
unfolding follows
turn_one before count e = rw (eq-eqb count 1 e)

-- a count other than 1 follows exactly if it is the next
turn-other : (before count : ℕ) → (count ≡ 1 → ⊥) → eqb count (next_count before) ≡ follows before count
unfolding follows
turn-other before count n = rw (ne_eqb count 1 n)

pub turn_last : (before count : ℕ) → (count ≡ 1 → ⊥) → before ≡ 999999 → eqb count 0 ≡ follows before count
unfolding next_count
turn_last before count n e = ap (eqb count) (sym (pick-t (eqb before 999999) 0 (before + 1) (eq-eqb before 999999 e))) ∙ turn-other before count n

next-is : (before : ℕ) → (before ≡ 999999 → ⊥) → next_count before ≡ before + 1
unfolding next_count
next-is before n = pick-f (eqb before 999999) 0 (before + 1) (ne_eqb before 999999 n)

pub turn-none : (before count : ℕ) → (count ≡ 1 → ⊥) → (before ≡ 999999 → ⊥) → count ≡ 0 → false ≡ follows before count
turn-none before count n l z =
    sym (ne_eqb count (next_count before) (λ e. let b : count ≡ before + 1 = e ∙ next-is before l in omega arith)) ∙ turn-other before count n

same_test : (a b x y : ℕ) → (a ≡ b → x ≡ y) → (x ≡ y → a ≡ b) → eqb a b ≡ eqb x y
same_test a b x y f g = go (ℕ_discrete a b)
  where
    go : Dec (a ≡ b) → eqb a b ≡ eqb x y
    go (yes e) = eq-eqb a b e ∙ sym (eq-eqb x y (f e))
    go (no n) = ne_eqb a b n ∙ sym (ne_eqb x y (λ e. n (g e)))

pub turn-next : (before count : ℕ) → (count ≡ 1 → ⊥) → (before ≡ 999999 → ⊥) → (count ≡ 0 → ⊥) → eqb (count - 1) before ≡ follows before count
turn-next before count n l z =
    same_test (count - 1) before count (before + 1) (λ e. omega arith) (λ e. omega arith)
    ∙ ap (eqb count) (sym (next-is before l))
    ∙ turn-other before count n

-- ---- the hole that a line ends

pub ends-none : (old : List Bool) (first : ℕ) (before : Before) (l : Line) → ((h : ℕ) → ends_hole h before l ≡ false) → AddsHole old first before l old
ends-none old first before l e =
    record { size = refl; at = λ k h. sym (ap (λ (b : Bool). get_or old k false || b) (e (first + k)) ∙ or-false (get_or old k false)) }

pub ends_on : (old : List Bool) (first : ℕ) (before : Before) (x : ℕ) → AddsHole old first before (On x) old
unfolding ends_hole
ends_on old first before x = ends-none old first before (On x) (λ h. refl)

pub ends-first : (old : List Bool) (first y d a s p : ℕ) → AddsHole old first None (Dose y d a s p) old
unfolding ends_hole
ends-first old first y d a s p = ends-none old first None (Dose y d a s p) (λ h. refl)

pub ends-turn : (old : List Bool) (first x c y d a s p : ℕ) → follows c d ≡ true → AddsHole old first (Some (x, c)) (Dose y d a s p) old
unfolding ends_hole
ends-turn old first x c y d a s p e = ends-none old first (Some (x, c)) (Dose y d a s p) (λ h. rw e)

-- places count from the first hour on
place-low : (first x k : ℕ) → leb (x - first) k ≡ leb x (first + k)
place-low first x k = go (leb x (first + k)) refl
  where
    go : (b : Bool) → leb x (first + k) ≡ b → leb (x - first) k ≡ b
    go true e = let l = leb-true x (first + k) e in le-leb (x - first) k (omega arith)
    go false e = let l = leb-false x (first + k) e in lt-leb (x - first) k (omega arith)

place-high : (first y k : ℕ) → first ≤ y → leb k (y - first) ≡ leb (first + k) y
place-high first y k h = go (leb (first + k) y) refl
  where
    go : (b : Bool) → leb (first + k) y ≡ b → leb k (y - first) ≡ b
    go true e = let l = leb-true (first + k) y e in le-leb k (y - first) (omega arith)
    go false e = let l = leb-false (first + k) y e in lt-leb k (y - first) (omega arith)

pub ends-hole : (old new : List Bool) (first x c y d a s p : ℕ) → follows c d ≡ false → first ≤ y → Adds old (x - first) (y - first) new → AddsHole old first (Some (x, c)) (Dose y d a s p) new
unfolding ends_hole
ends-hole old new first x c y d a s p e high m =
    record { size = m.size; at = λ k h. m.at k h ∙ rw (e, place-low first x k, place-high first y k high) refl }

-- a line before the first hour ends no hole there
pub ends-before : (old : List Bool) (first : ℕ) (before : Before) (y d a s p : ℕ) → y < first → AddsHole old first before (Dose y d a s p) old
unfolding ends_hole
ends-before old first None y d a s p h = ends-none old first None (Dose y d a s p) (λ k. refl)
ends-before old first (Some (x, c)) y d a s p h =
    record { size = refl; at = λ k i. sym (ap (λ (b : Bool). get_or old k false || b) (none k) ∙ or-false (get_or old k false)) }
  where
    never : (u v : Bool) → (u && (v && false)) ≡ false
    never true true = refl
    never true false = refl
    never false v = refl

    none : (k : ℕ) → ends_hole (first + k) (Some (x, c)) (Dose y d a s p) ≡ false
    none k = ap (λ (b : Bool). not (follows c d) && (leb x (first + k) && b)) (lt-leb (first + k) y (omega arith)) ∙ never (not (follows c d)) (leb x (first + k))

-- what is told of the two lines
pub ends-told : {old new : List Bool} {first : ℕ} {before : Before} {l : Line} (b : Before) (m : Line) → before ≡ b → l ≡ m → AddsHole old first b m new → AddsHole old first before l new
ends-told b m p q a = rw (p, q) a
