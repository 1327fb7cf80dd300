-- What counting a day's line answers. Assumes nothing.
use Rattle.std.specs.Prelude.{◌≡◌, ℕ, ◌≤◌, length}
use Rattle.weekly.specs.declared.Day.{Day}
use Rattle.sheet.specs.Lines.{day_text}

-- its length, which is at most three numbers of 20 digits and 5 bytes
pub record CountsDay (d : ℕ) (x : Day) (r : ℕ) : Type 0 where
  pub is : r ≡ length (day_text d x)
  pub small : r ≤ 65
