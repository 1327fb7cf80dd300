-- The next whole line of a script that comes in blocks, where it is a tick. Assumes nothing.
use Rattle.std.specs.Prelude.{◌≡◌, Option, Some, None, List, ℕ, ◌≤◌, ℤ, length, drop}
use Rattle.laws.specs.Decimal.{Parsed, good, bad}
use Rattle.paper.specs.Answer.{same}
use Rattle.text.specs.Scan.{LF, expect, on_good}
use Rattle.lines.specs.declared.Intake.{Intake}
use Rattle.lines.specs.Places.{part_of}
use Rattle.lines.specs.Intake.{next_of}
use Rattle.calls.specs.Call.{Call, tick, request, modbus, order, item, bytes, tick_at, call_of}
use Rattle.script.specs.declared.Tick.{Tick}

-- ---- the next line

-- a tick, or none
pub data Seen : Type 0 where
  seen : ℤ → ℕ → Seen
  unseen : Seen

unfoldable pub if_tick : Call → Seen
if_tick (tick x i) = seen x i
if_tick (request s room) = unseen
if_tick (modbus s room) = unseen
if_tick (order o) = unseen
if_tick (item i) = unseen
if_tick (bytes u s n) = unseen

unfoldable pub only_tick : Parsed Call → Seen
only_tick (good call rest) = if_tick call
only_tick bad = unseen

-- with the place after its LF
abbrev pub ticked : ℤ → ℕ → ℕ → Tick
ticked x i next = record { sample = x; inputs = i; next = next }

unfoldable pub placed : ℕ → Seen → Option Tick
placed next (seen x i) = Some (ticked x i next)
placed next unseen = None

-- the line that is handed over, where it is a tick
unfoldable pub handed_tick : List ℕ → ℕ → Option (ℕ × ℕ) → Option Tick
handed_tick input next (Some (from, to)) = placed next (only_tick (call_of (part_of from to input)))
handed_tick input next None = None

-- the next one begins behind it
unfoldable pub sight_of : Intake → List ℕ → Option Tick
sight_of i input = handed_tick input (next_of i input).intake.at (next_of i input).next

-- ---- the contracts

abbrev pub Sights : Intake → List ℕ → Option Tick → Type 0
Sights i input r = r ≡ sight_of i input

-- a tick and its LF at the start of some bytes
unfoldable pub tick_line : List ℕ → Parsed Call
tick_line l = expect 84 l (λ rest. on_good (tick_at rest) (λ call rest'. expect LF rest' (good call)))

-- what the reader answers: the tick, and the bytes of s that follow it
abbrev pub leads_tick : List ℕ → Option Tick → Parsed Call
leads_tick s (Some t) = good (tick t.sample t.inputs) (drop t.next s)
leads_tick s None = bad

abbrev pub tick_end : Option Tick → ℕ
tick_end (Some t) = t.next
tick_end None = 0

pub record ReadsTick (s : List ℕ) (at : ℕ) (r : Option Tick) : Type 0 where
  pub reads : tick_line (drop at s) ≡ leads_tick s r
  pub inside : tick_end r ≤ length s

-- two results that both meet the contract are equal
pub sight-determined : (i : Intake) (input : List ℕ) {a b : Option Tick} → Sights i input a → Sights i input b → a ≡ b
sight-determined i input p q = same p q
