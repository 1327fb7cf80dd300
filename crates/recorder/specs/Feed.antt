-- What the lines of a buffer give (the program `record`). Assumes nothing.
use Rattle.std.specs.Prelude.{◌≡◌, Option, Some, None, List, [], ◌++◌, ℕ, zero, suc, ◌-◌, ◌≤◌, leb, length}
use Rattle.std.proofs.Common.{ap, ap₂, ◌∙◌}
use Rattle.laws.specs.Pick.{pick}
use Rattle.laws.specs.Over.{over}
use Rattle.paper.specs.Answer.{same}
use Rattle.lines.specs.declared.Intake.{Intake}
use Rattle.lines.specs.Places.{part_of}
use Rattle.lines.specs.Intake as lines
use Rattle.recorder.specs.Recording.{note_of, next_of, Carries}
use Rattle.recorder.specs.declared.Recorder.{Recorder}
use Rattle.recorder.specs.declared.Fed.{Fed}

-- ---- what a buffer gives

-- what is carried on, what is still pending, and what was added to the journal
pub record Gave : Type 0 where
  pub next : Recorder
  pub intake : Intake
  pub text : List ℕ

abbrev pub gave : Recorder → Intake → List ℕ → Gave
gave r i t = record { next = r; intake = i; text = t }

-- what a line adds stands before what the others give
unfoldable pub ahead : List ℕ → Gave → Gave
ahead t g = gave g.next g.intake (t ++ g.text)

-- the line that is handed over is noted, and then the others; where none is left, more has to be read
unfoldable pub on_next : (ℕ → Recorder → Gave) → ℕ → Recorder → List ℕ → Intake → Option (ℕ × ℕ) → Gave
on_next others room r input i (Some (from, to)) =
    let n = note_of r (part_of from to input) in
    ahead n.text (others (room - length n.text) (next_of r (part_of from to input)))
on_next others room r input i None = gave r i []

-- line after line, while 64 bytes of room are left
unfoldable pub feed_from : ℕ → ℕ → Recorder → Intake → List ℕ → Gave
feed_from zero room r i input = gave r i []
feed_from (suc n) room r i input =
    let t = lines.next_of i input in
    pick (leb 64 room) (on_next (λ left next. feed_from n left next t.intake input) room r input t.intake t.next) (gave r i [])

-- a buffer has no more lines than bytes
unfoldable pub feed_of : ℕ → Recorder → Intake → List ℕ → Gave
feed_of room r i input = feed_from (suc (length input)) room r i input

-- ---- the contract

-- what is carried on, pending and added is what the buffer gives; it stands at the start of `old`, the rest of which is as it was
pub record Feeds (r : Recorder) (i : Intake) (input old new : List ℕ) (f : Fed) : Type 0 where
  pub next : f.next ≡ (feed_of (length old) r i input).next
  pub intake : f.intake ≡ (feed_of (length old) r i input).intake
  pub len : f.len ≡ length (feed_of (length old) r i input).text
  pub left : new ≡ over (feed_of (length old) r i input).text old
  pub within : f.len ≤ length old
  pub carries : Carries f.next

abbrev fed_of : Recorder → Intake → ℕ → Fed
fed_of r i n = record { next = r; intake = i; len = n }

-- two results that both meet the contract are equal
pub feed-determined : {r : Recorder} {i : Intake} {input old new new' : List ℕ} {a b : Fed} → Feeds r i input old new a → Feeds r i input old new' b → (a ≡ b) × (new ≡ new')
feed-determined {a = a} {b = b} p q = (
  ap (λ (s : Recorder). fed_of s a.intake a.len) (same p.next q.next)
      ∙ ap₂ (fed_of b.next) (same p.intake q.intake) (same p.len q.len),
  same p.left q.left,
)
