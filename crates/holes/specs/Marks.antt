-- Marks of the hours from a first one on: those that lie in a hole. Assumes nothing.
use Rattle.std.specs.Prelude.{◌≡◌, Bool, false, ◌&&◌, ◌||◌, List, ℕ, ◌+◌, ◌<◌, leb, length, get_or}
use Rattle.journal.specs.declared.Line.{Line}
use Rattle.holes.specs.Holes.{Before, ends_hole, in_hole}

-- the marks of the 744 hours from `first` on: those in a hole
pub record Marks (holed : List Bool) (first : ℕ) (ls : List Line) : Type 0 where
  pub size : length holed ≡ 744
  pub at : (k : ℕ) → k < 744 → get_or holed k false ≡ in_hole (first + k) ls

-- the places from `from` to `to` marked too
pub record Adds (old : List Bool) (from to : ℕ) (new : List Bool) : Type 0 where
  pub size : length new ≡ length old
  pub at : (k : ℕ) → k < length old → get_or new k false ≡ (get_or old k false || (leb from k && leb k to))

-- the hours of the hole that a line ends marked too
pub record AddsHole (old : List Bool) (first : ℕ) (before : Before) (l : Line) (new : List Bool) : Type 0 where
  pub size : length new ≡ length old
  pub at : (k : ℕ) → k < length old → get_or new k false ≡ (get_or old k false || ends_hole (first + k) before l)
