-- The clock of a recording (the program `record`): what each line that is heard adds to the journal. Assumes nothing.
use Rattle.std.specs.Prelude.{Bool, true, false, ◌&&◌, List, [], ◌∷◌, ◌++◌, ℕ, ◌+◌, ◌≤◌, ◌<◌, ltb, eqb}
use Rattle.laws.specs.Pick.{pick}
use Rattle.laws.specs.Decimal.{Parsed, good, bad, decimal}
use Rattle.paper.specs.Numbers.{R10}
use Rattle.text.specs.Scan.{TAB, LF}
use Rattle.journal.specs.declared.Form.TheVariants.{New}
use Rattle.journal.specs.declared.Line.{Line}
use Rattle.journal.specs.declared.Line.TheVariants.{Dose, On}
use Rattle.journal.specs.Line.{version_text}
use Rattle.journal.specs.Journal.{lines_text}
use Rattle.counters.specs.declared.Record.{Record}
use Rattle.clock.specs.declared.Heard.{Heard}
use Rattle.clock.specs.declared.Heard.TheVariants.{Ticked, Dosed, Restarted, Lost, Other}
use Rattle.clock.specs.declared.Stage.{Stage}
use Rattle.clock.specs.declared.Stage.TheVariants.{First, Recording, Over}
use Rattle.clock.specs.declared.Clock.{Clock}

-- 450,000 ticks an hour
abbrev pub ticks_an_hour : ℕ
ticks_an_hour = 450000

-- Hours 0..9,999,999
abbrev pub greatest_hour : ℕ
greatest_hour = 9999999

-- ---- before the first line: nothing of the hour was missed, and the box is known, since it begins fresh

unfoldable pub start_of : Clock
start_of = record { stage = First; hour = 0; ticks = 0; whole = true; known = true }

-- ---- the next clock, and what a line adds to the journal

pub record Note : Type 0 where
  pub next : Clock
  pub text : List ℕ

abbrev pub note : Clock → List ℕ → Note
note k t = record { next = k; text = t }

unfoldable pub with_stage : Stage → Clock → Clock
with_stage s k = record { stage = s; hour = k.hour; ticks = k.ticks; whole = k.whole; known = k.known }

unfoldable pub with_hour : ℕ → Clock → Clock
with_hour h k = record { stage = k.stage; hour = h; ticks = k.ticks; whole = k.whole; known = k.known }

unfoldable pub with_ticks : ℕ → Clock → Clock
with_ticks n k = record { stage = k.stage; hour = k.hour; ticks = n; whole = k.whole; known = k.known }

unfoldable pub with_whole : Bool → Clock → Clock
with_whole b k = record { stage = k.stage; hour = k.hour; ticks = k.ticks; whole = b; known = k.known }

unfoldable pub with_known : Bool → Clock → Clock
with_known b k = record { stage = k.stage; hour = k.hour; ticks = k.ticks; whole = k.whole; known = b }

-- the one line `R`, 10 and the line
unfoldable pub refusal_text : ℕ → List ℕ
refusal_text line = 82 ∷ TAB ∷ (decimal R10 ++ TAB ∷ (decimal line ++ LF ∷ []))

-- and nothing more
unfoldable pub refuse : ℕ → Clock → Note
refuse line k = note (with_stage Over k) (refusal_text line)

-- The first line is the hour of the first tick, alone on its line: the journal begins with the V line, whatever follows; any other first line is R10 with line 1
unfoldable pub first_of : Clock → Parsed ℕ → Note
first_of k (good h []) = note (with_stage Recording (with_hour h k)) version_text
first_of k (good h (b ∷ bs)) = refuse 1 k
first_of k bad = refuse 1 k

-- A completed dose prints `D`, the tick's hour, count, amount, settled, product
unfoldable pub dose_in : ℕ → Record → Line
dose_in h d = Dose h d.count d.amount d.settled d.product

-- `H` and the hour are printed if nothing of the hour was missed and the box is known
unfoldable pub closing : Clock → List Line
closing k = pick (k.whole && k.known) (On k.hour ∷ []) []

-- the hour that follows: none of its ticks has come, and nothing of it was missed
unfoldable pub next_hour : Clock → Clock
next_hour k = with_whole true (with_ticks 0 (with_hour (k.hour + 1) k))

-- one tick more: 450,000 counted ticks are an hour, and it ends with its last one
unfoldable pub one_more : Clock → List Line → Note
one_more k doses =
    pick (eqb (k.ticks + 1) ticks_an_hour) (note (next_hour k) (lines_text New (doses ++ closing k))) (note (with_ticks (k.ticks + 1) k) (lines_text New doses))

-- The first counted tick in an hour above 9,999,999 prints the one line `R`, 10, 0
unfoldable pub counts : Clock → List Line → Note
counts k doses = pick (ltb greatest_hour k.hour) (refuse 0 k) (one_more k doses)

-- an accepted restart after the hour's first tick and before its last breaks the hour; the box is known again
unfoldable pub restarted_by : Clock → Clock
restarted_by k = with_known true (with_whole (k.whole && eqb k.ticks 0) k)

-- a line that is no call breaks the hour, and from there on nobody knows the box
unfoldable pub lost_by : Clock → Clock
lost_by k = with_known false (with_whole false k)

unfoldable pub heard_by : Clock → Heard → Note
heard_by k Ticked = counts k []
heard_by k (Dosed d) = counts k (dose_in k.hour d ∷ [])
heard_by k Restarted = note (restarted_by k) []
heard_by k Lost = note (lost_by k) []
heard_by k Other = note k []

-- what is left of the clock by a line that is no counted tick
unfoldable pub passed_by : Clock → Heard → Clock
passed_by k Ticked = k
passed_by k (Dosed d) = k
passed_by k Restarted = restarted_by k
passed_by k Lost = lost_by k
passed_by k Other = k

-- ---- what every clock from start or an earlier call satisfies

pub record Runs (k : Clock) : Type 0 where
  pub ticks : k.ticks < ticks_an_hour
  pub hour : k.hour ≤ greatest_hour + 1
