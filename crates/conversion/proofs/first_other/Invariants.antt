-- What is left to search from place i on gives the answer for all.
use Rattle.std.proofs.Common.{◌≡◌, List, ℕ, ◌+◌, ◌≤◌, drop}
use Rattle.conversion.specs.Bytes.{other_from}
use Rattle.conversion.proofs.first_other.Given as goal

-- none was seen so far
pub record Sought (s : List ℕ) (line tabs i : ℕ) : Type 0 where
  pub left : other_from line tabs (drop i s) ≡ other_from 2 0 s
  pub few : tabs ≤ i
  pub lines : line ≤ i + 2
  pub least : 2 ≤ line

abbrev pub invariant-loop-b : goal.invariant-loop-b
invariant-loop-b l = Sought l.lines l.line l.tabs l.b-index
