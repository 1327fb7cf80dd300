-- What is counted, and what is left to count from place i on, make the whole.
use Rattle.std.proofs.Common.{◌≡◌, List, ℕ, ◌+◌, ◌*◌, ◌≤◌, length, drop}
use Rattle.journal.specs.declared.Form.{Form}
use Rattle.conversion.specs.Bytes.{bytes_to}
use Rattle.conversion.proofs.lines_len.Given as goal

-- the bytes counted, and those that what is left becomes
pub record Counted (to : Form) (s : List ℕ) (n tabs i : ℕ) : Type 0 where
  pub all : n + length (bytes_to to tabs (drop i s)) ≡ length (bytes_to to 0 s)
  pub most : n ≤ 3 * i
  pub few : tabs ≤ i

abbrev pub invariant-loop-b : goal.invariant-loop-b
invariant-loop-b l = Counted l.to l.lines l.n l.tabs l.b-index
