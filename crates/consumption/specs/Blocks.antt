-- Over any blocks of an input nothing of what `record` writes is lost, made up or written twice. Assumes nothing.
use Rattle.std.specs.Prelude.{◌≡◌, refl, Option, Some, None, List, ◌++◌, ℕ, zero, suc, ◌-◌, leb, length}
use Rattle.std.proofs.Common.{sym, ap, ◌∙◌, append_assoc}
use Rattle.laws.specs.Pick.{pick_all}
use Rattle.lines.specs.declared.Intake.{Intake}
use Rattle.lines.specs.declared.Taken.{Taken}
use Rattle.lines.specs.Places.{part_of}
use Rattle.lines.specs.Intake.{comes, handed, Steps, next-steps, comes-start}
use Rattle.lines.specs.Intake as lines
use Rattle.recorder.specs.Recording.{note_of, next_of, start_of, notes_of, record_of}
use Rattle.recorder.specs.Feed.{Gave, ahead, on_next, feed_from, feed_of}
use Rattle.recorder.specs.declared.Recorder.{Recorder}

-- the lines still to come add what the buffer gives, and then what is left of it with what follows it adds
abbrev Right : Recorder → Intake → List ℕ → Gave → Type 0
Right r i input g = (future : List ℕ) → notes_of r (comes i input future) ≡ g.text ++ notes_of g.next (comes g.intake input future)

next-right : (others : ℕ → Recorder → Gave) (room : ℕ) (r : Recorder) (i : Intake) (input : List ℕ) (t : Taken) → Steps i input t
    → ((left : ℕ) (next : Recorder) → Right next t.intake input (others left next)) → (n : Option (ℕ × ℕ)) → t.next ≡ n → Right r i input (on_next others room r input t.intake n)
unfolding on_next ahead handed notes_of
next-right others room r i input t s h (Some (from, to)) e future =
    let l = part_of from to input in
    let n = (note_of r l).text in
    let g = others (room - length n) (next_of r l) in
    ap (notes_of r) (s.comes future ∙ ap (λ (x : Option (ℕ × ℕ)). handed input x ++ comes t.intake input future) e)
    ∙ ap (λ (more : List ℕ). n ++ more) (h (room - length n) (next_of r l) future)
    ∙ sym (append_assoc n g.text (notes_of g.next (comes g.intake input future)))
next-right others room r i input t s h None e future = ap (notes_of r) (s.comes future ∙ ap (λ (x : Option (ℕ × ℕ)). handed input x ++ comes t.intake input future) e)

from-right : (n room : ℕ) (r : Recorder) (i : Intake) (input : List ℕ) → Right r i input (feed_from n room r i input)
unfolding feed_from
from-right zero room r i input = λ future. refl
from-right (suc n) room r i input =
    let t = lines.next_of i input in
    pick_all (Right r i input) (leb 64 room)
    (next-right (λ left next. feed_from n left next t.intake input) room r i input t (next-steps i input) (λ left next. from-right n left next t.intake input) t.next refl)
    (λ future. refl)

pub feed-right : (room : ℕ) (r : Recorder) (i : Intake) (input future : List ℕ)
    → notes_of r (comes i input future) ≡ (feed_of room r i input).text ++ notes_of (feed_of room r i input).next (comes (feed_of room r i input).intake input future)
unfolding feed_of
feed-right room r i input future = from-right (suc (length input)) room r i input future

-- before the first read all of an input is still to come
pub record-start : (buffer input : List ℕ) → record_of input ≡ notes_of start_of (comes lines.start_of buffer input)
unfolding record_of
record-start buffer input = ap (notes_of start_of) (sym (comes-start buffer input))
