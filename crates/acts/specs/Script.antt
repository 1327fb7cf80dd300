-- Lines one after another, as blocks of an input hand them over, and the controller that they make. Assumes nothing.
use Rattle.std.specs.Prelude.{◌≡◌, refl, Option, Some, None, List, [], ◌∷◌, ◌++◌, ℕ, ◌-◌, ◌≤◌, ℤ, length, take, drop}
use Rattle.std.proofs.Math.Path.{sym, ap}
use Rattle.std.proofs.Common.{◌∙◌, subst, arith, length-take}
use Rattle.std.proofs.lemmas.List.{length-replicate}
use Rattle.laws.specs.Decimal.{Parsed, good}
use Rattle.controller.specs.declared.Controller.{Controller}
use Rattle.controller.specs.declared.Ticked.{Ticked}
use Rattle.controller.specs.declared.Requested.{Requested}
use Rattle.panel.specs.declared.Polled.{Polled}
use Rattle.controller.specs.Line.{request_of}
use Rattle.panel.specs.Modbus.{modbus_of}
use Rattle.controller.specs.Says.{Ticks, Replies}
use Rattle.panel.specs.Says.{Polls}
use Rattle.controller.specs.Sound.{Sound}
use Rattle.series.specs.Events.{run, event_of}
use Rattle.lines.specs.declared.Intake.{Intake}
use Rattle.lines.specs.declared.Taken.{Taken}
use Rattle.lines.specs.Places.{part_of}
use Rattle.lines.specs.Intake.{comes, next_of, handed, Behind, Waits, NextStands, Steps, next-steps}
use Rattle.calls.specs.Call.{Call, request, modbus, call_of}
use Rattle.calls.specs.declared.Call as read
use Rattle.calls.specs.declared.Call.TheVariants as C
use Rattle.calls.specs.Reads.{as_call, ReadsCall, read-call}
use Rattle.acts.specs.Acts.{blank, call_events, events_in, made_by}
use Rattle.acts.specs.Makes.{Made}

-- the controller after lines, one after another
unfoldable pub made_by_all : Controller → List (List ℕ) → Controller
made_by_all c [] = c
made_by_all c (l ∷ ls) = made_by_all (made_by c (call_of l)) ls

-- lines are made, and those still to come find the controller that they would have found
pub record Brings (first : Controller) (start : Intake) (input : List ℕ) (c : Controller) (held : Intake) : Type 0 where
  pub sound : Sound c
  pub made : (future : List ℕ) → made_by_all first (comes start input future) ≡ made_by_all c (comes held input future)

-- ---- a call that was read

-- a tick that a program makes by itself
pub made-tick : {c : Controller} (bytes : List ℕ) {x : ℤ} {i : ℕ} (r : Ticked) → Ticks c x i r → Made c (as_call bytes (C.Tick x i)) r.next
unfolding made_by as_call events_in call_events run event_of
made-tick bytes r h = record { next = h.next; sound = h.sound }

pub made-ticked : {c : Controller} (bytes : List ℕ) {call : read.Call} {x y : ℤ} {i : ℕ} (r : Ticked) → call ≡ C.Tick x i → y ≡ x → Ticks c y i r → Made c (as_call bytes call) r.next
made-ticked {c} bytes {i = i} r e f h =
    subst (λ (k : read.Call). Made c (as_call bytes k) r.next) (sym e) (made-tick bytes r (subst (λ (z : ℤ). Ticks c z i r) f h))

-- a line request and a MODBUS frame, with the room that they ask for
module _ {c : Controller} {s old new : List ℕ} {room : ℕ} (e : length old ≡ room) where
  pub made-asked : (r : Requested) → Replies c s old new r → Made c (good (request s room) []) r.next
  unfolding made_by events_in call_events run event_of blank
  made-asked r h = record { next = h.next ∙ ap (λ (k : ℕ). (request_of c s k).next) (e ∙ sym (length-replicate {A = ℕ} room 0xA5)); sound = h.sound }

  pub made-polled : (r : Polled) → Polls c s old new r → Made c (good (modbus s room) []) r.next
  unfolding made_by events_in call_events run event_of blank
  made-polled r h = record { next = h.next ∙ ap (λ (k : ℕ). (modbus_of c s k).next) (e ∙ sym (length-replicate {A = ℕ} room 0xA5)); sound = h.sound }

-- and a line of a fitting length, read with room for its bytes, is its call
pub made-read : {c d : Controller} {call : read.Call} {line old new : List ℕ} → ReadsCall line old new call → 2048 ≤ length old → length line ≤ 4095
    → Made c (as_call new call) d → Made c (call_of line) d
made-read {c} {d} p h k m = subst (λ (q : Parsed Call). Made c q d) (read-call p h k) m

-- ---- a step over the lines

pub brings-none : {c : Controller} {i : Intake} {input : List ℕ} → Sound c → Brings c i input c i
brings-none s = record { sound = s; made = λ future. refl }

pub brings-then : {first c d : Controller} {start held later : Intake} {input : List ℕ} → Brings first start input c held → Brings c held input d later → Brings first start input d later
brings-then p q = record { sound = q.sound; made = λ future. p.made future ∙ q.made future }

-- what the next line, or that there is none, tells
module _ (input : List ℕ) (held : Intake) (t : Taken) (e : t ≡ next_of held input) where
  steps : Steps held input t
  steps = subst (Steps held input) (sym e) (next-steps held input)

  pub line-behind : {from to : ℕ} → t.next ≡ Some (from, to) → Behind held input from to t.intake
  line-behind n = subst (NextStands held input t.intake) n steps.stands

  pub none-waits : t.next ≡ None → Waits t.intake input
  none-waits n = subst (NextStands held input t.intake) n steps.stands

  pub line-short : {from to : ℕ} → t.next ≡ Some (from, to) → length (take (to - from) (drop from input)) ≤ 4095
  line-short {from} {to} n = omega (arith, (line-behind n).short, length-take (to - from) (drop from input))

  -- a line's call leaves what the others find
  pub brings-line : {first d : Controller} {start : Intake} {c : Controller} {from to : ℕ} → Brings first start input c held
      → t.next ≡ Some (from, to) → Made c (call_of (take (to - from) (drop from input))) d → Brings first start input d t.intake
  unfolding handed part_of made_by_all
  brings-line {c = c} g n m = record {
    sound = m.sound;
    made = λ future.
        g.made future
        ∙ ap (made_by_all c) (steps.comes future ∙ ap (λ (x : Option (ℕ × ℕ)). handed input x ++ comes t.intake input future) n)
        ∙ ap (λ (d : Controller). made_by_all d (comes t.intake input future)) (sym m.next);
  }

  pub brings-more : {first : Controller} {start : Intake} {c : Controller} → Brings first start input c held → t.next ≡ None → Brings first start input c t.intake
  unfolding handed
  brings-more {c = c} g n = record {
    sound = g.sound;
    made = λ future. g.made future ∙ ap (made_by_all c) (steps.comes future ∙ ap (λ (x : Option (ℕ × ℕ)). handed input x ++ comes t.intake input future) n);
  }
