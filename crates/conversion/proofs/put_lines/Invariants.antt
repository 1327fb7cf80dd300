-- What is left to store from place i on makes the whole.
use Rattle.std.proofs.Common.{◌≡◌, List, ℕ, ◌+◌, ◌≤◌, length, drop}
use Rattle.std.proofs.lemmas.List.Edits.{sets}
use Rattle.journal.specs.declared.Form.{Form}
use Rattle.conversion.specs.Bytes.{bytes_to}
use Rattle.conversion.proofs.put_lines.Given as goal

-- what is left, stored from p on, makes the whole
pub record Stored (to : Form) (s : List ℕ) (at : ℕ) (old out : List ℕ) (tabs i p : ℕ) : Type 0 where
  pub size : length out ≡ length old
  pub place : p + length (bytes_to to tabs (drop i s)) ≡ at + length (bytes_to to 0 s)
  pub left : sets out p (bytes_to to tabs (drop i s)) ≡ sets old at (bytes_to to 0 s)
  pub few : tabs ≤ i

abbrev pub invariant-loop-b : goal.invariant-loop-b
invariant-loop-b l = Stored l.to l.lines l.at l.initial.out l.out l.tabs l.b-index l.p
