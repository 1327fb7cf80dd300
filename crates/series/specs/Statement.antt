-- Demand 3, in full: what holds over any series of calls from a fresh controller. Assumes nothing.
use Rattle.std.specs.Prelude.{◌≡◌, Bool, true, false, ◌&&◌, List, ℕ, ◌+◌, ◌%◌, ℤ, length}
use Rattle.paper.specs.Answer.{Answer, done, refused, fault}
use Rattle.dosing.specs.Gates.{filling_open, emptying_open}
use Rattle.hourly.specs.Hours.{total}
use Rattle.controller.specs.declared.Controller.{Controller}
use Rattle.counters.specs.declared.Counters.{Counters}
use Rattle.scale.specs.Scale.{over_capacity}
use Rattle.controller.specs.Tick.{Told, tick_of}
use Rattle.controller.specs.State.{fresh_of}
use Rattle.controller.specs.Sound.{Sound}
use Rattle.controller.specs.Outside.{w_at, clear}
use Rattle.series.specs.Events.{Event, run, since_reset, nothing_seen, seen, hands_back}

-- the answer is no refusal
unfoldable pub accepted : Answer Told → Bool
accepted (done t) = true
accepted (refused n vs) = false
accepted (fault n vs) = true

-- the controller after a series from the fresh one
abbrev pub box_after : List Event → Controller
box_after es = run fresh_of es

-- the count and total that its last accepted restart was given, 0 and 0 before one and after an accepted reset, and the amounts of the doses seen to complete since
abbrev pub stored_after : List Event → Counters
stored_after es = (seen fresh_of nothing_seen es).stored

abbrev pub doses_after : List Event → List ℕ
doses_after es = (seen fresh_of nothing_seen es).doses

-- the amounts of all doses seen to complete since the last accepted reset
abbrev pub all_doses_after : List Event → List ℕ
all_doses_after es = since_reset (seen fresh_of nothing_seen es)

pub record Demand3 (es : List Event) : Type 0 where
  -- filling and emptying gates are never open together
  pub never_both : (filling_open (box_after es).set (box_after es).gates && emptying_open (box_after es).set (box_after es).gates) ≡ false
  -- no filling gate is open after an over-capacity tick
  pub over-capacity : (x : ℤ) (i : ℕ)
      → accepted (tick_of (box_after es) x i).answer ≡ true
      → over_capacity (box_after es).set (w_at (box_after es) x (tick_of (box_after es) x i).next) ≡ true
      → filling_open (box_after es).set (tick_of (box_after es) x i).next.gates ≡ false
  -- or in a fault
  pub in-fault : clear (box_after es).condition ≡ false → filling_open (box_after es).set (box_after es).gates ≡ false
  -- count and total are those of the doses that the rules complete: counted on from whatever numbers the last accepted restart was given
  pub count-on : (box_after es).counters.count ≡ ((stored_after es).count + length (doses_after es)) % 1000000
  pub total-on : (box_after es).counters.total ≡ ((stored_after es).total + total (doses_after es)) % 1000000000
  -- and where every accepted restart hands back the counters as they were, those of all doses since the last accepted reset
  pub count : hands_back fresh_of es ≡ true → (box_after es).counters.count ≡ length (all_doses_after es) % 1000000
  pub total : hands_back fresh_of es ≡ true → (box_after es).counters.total ≡ total (all_doses_after es) % 1000000000
  -- each call's contract applies at every step
  pub sound : Sound (box_after es)
