use mathlib.Core.Path.{◌≡◌, refl}
use mathlib.Core.List.{List, ◌++◌}
use Prim.Native.Nat.{ℕ, ◌+◌, ◌-◌, ◌≤◌}
use native.Mathlib.Omega.{arith}
use lib.ListN.{length, take, drop, length-append}
use lib.Seq.{length-take-le}
use Rattle.lines.specs.Places.{carry-inside}
use Rattle.heading.specs.Heading.{Continues, Behind}
use Rattle.heading.specs.declared.Found.{Found}
use Rattle.heading.specs.declared.Found.TheVariants as F
use Rattle.heading.specs.declared.Headed.{Headed}
use Rattle.heading.proofs.Coming.{continued}
use Rattle.heading.proofs.read_journal.Goals as goal

-- with a first line, or more to read
behind : (h : Headed) (f : Found) (old new : List ℕ) (n : ℕ) → (f ≡ F.Nothing → ⊥) → Continues h old new n → Behind h f old new n
behind h (F.Line from to) old new n k c = c
behind h F.More old new n k c = c
behind h F.Nothing old new n k c = absurd (k refl)

-- what was read stands behind the first bytes
within : (old part : List ℕ) (held n k : ℕ) → held ≤ length old → n ≤ length part → held + n ≤ length (take held old ++ (part ++ drop k (drop held old)))
within old part held n k h m =
    omega (arith, length-append (take held old) (part ++ drop k (drop held old)), length-append part (drop k (drop held old)), length-take-le held old h)

pub returns-in-Nothing : goal.returns-in-Nothing
returns-in-Nothing c = rw c.in-Nothing.is

pub slice_bounds-read_full-count : goal.slice_bounds-read_full-count
slice_bounds-read_full-count c = omega (arith, carry-inside c.carry-held.ensures)

pub slice_bounds-read_full-start : goal.slice_bounds-read_full-start
slice_bounds-read_full-start c = omega (arith, carry-inside c.carry-held.ensures)

pub returns : goal.returns
returns c =
    let carried = c.carry-held in
    let mid = carried.new.buffer in
    let read = c.read_full in
    let i = carry-inside carried.ensures in
    behind _ c.args.headed.found _ _ _ c.in_default.not-Nothing
    (continued c.args.headed _ mid _ _ _ carried.ensures
    (within mid read.new.buf carried.result read.result (length mid - carried.result) (omega (arith, i.0, i.1)) read.ensures.0))
