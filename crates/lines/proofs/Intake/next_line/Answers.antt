use mathlib.Core.Path.{◌≡◌, sym, ap, ap₂, ◌∙◌}
use mathlib.Core.Bool.{false}
use mathlib.Core.List.{List}
use Prim.Native.Nat.{ℕ, ◌+◌, ◌≤◌, ◌<◌, min}
use native.Mathlib.Omega.{arith}
use Rattle.std.specs.Prelude.{Some, None}
use lib.Dec.{ltb}
use lib.ListN.{length, take}
use lib.Seq.{length-take-le}
use borrow.Author.Tests.{lt-ltb, le-ltb}
use Rattle.laws.specs.Pick.{pick, pick-t, pick-f}
use Rattle.lines.specs.declared.Intake.{Intake}
use Rattle.lines.specs.declared.Taken.{Taken}
use Rattle.lines.specs.Places.{end_of, take-least}
use Rattle.lines.specs.Intake.{overlong, line_to, begun_to, next_of}
use Rattle.lines.proofs.Intake.next_line.Goals as goal

-- what is handed over, by where the line that goes on ends
module _ (i : Intake) (buffer : List ℕ) {have end : ℕ} (size : have ≡ min i.have (length buffer)) (place : end ≡ end_of (take have buffer) i.at) where
  abbrev by : ℕ → ℕ → Taken
  by e n = pick (ltb e n) (line_to i e) (record { intake = begun_to i e; next = None })

  next-is : by end have ≡ next_of i buffer
  unfolding next_of
  next-is =
      let held = ap (λ (n : ℕ). take n buffer) size ∙ take-least i.have buffer in
      ap₂ by (place ∙ ap (λ (l : List ℕ). end_of l i.at) held) (sym (length-take-le have buffer (omega arith)) ∙ ap length held)

  to-line : {from : ℕ} → end < have → from ≡ pick (overlong i end) end i.at
      → record { intake = record { at = end + 1; have = i.have; long = false }; next = Some (from, end) } ≡ next_of i buffer
  unfolding line_to
  to-line h e =
      ap (λ (from : ℕ). record { intake = record { at = end + 1; have = i.have; long = false }; next = Some (from, end) }) e
      ∙ sym (pick-t _ _ _ (lt-ltb end have h))
      ∙ next-is

  to-begun : {r : Intake} → have ≤ end → r ≡ begun_to i end → record { intake = r; next = None } ≡ next_of i buffer
  to-begun h e = ap (λ (j : Intake). record { intake = j; next = None }) e ∙ sym (pick-f _ _ _ (le-ltb end have h)) ∙ next-is

pub overflow_sub-over : goal.overflow_sub-over
unfolding end_of
overflow_sub-over c = omega (arith, c.line_end-end.ensures)

pub returns-then-over : goal.returns-then-over
unfolding begun_to overlong
returns-then-over c = to-begun _ _ c.min-have.ensures c.line_end-end.ensures c.if-have-end.true (sym (pick-t _ _ _ c.if-over.true))

pub returns-else-over : goal.returns-else-over
unfolding begun_to overlong
returns-else-over c = to-begun _ _ c.min-have.ensures c.line_end-end.ensures c.if-have-end.true (sym (pick-f _ _ _ c.if-over.false))

pub returns-then-over-2 : goal.returns-then-over-2
unfolding overlong
returns-then-over-2 c = to-line _ _ c.min-have.ensures c.line_end-end.ensures c.if-have-end.false (sym (pick-t _ _ _ c.if-over-2.true))

pub returns-else-over-2 : goal.returns-else-over-2
unfolding overlong
returns-else-over-2 c = to-line _ _ c.min-have.ensures c.line_end-end.ensures c.if-have-end.false (sym (pick-f _ _ _ c.if-over-2.false))
