-- What every sound controller promises beside the calls: doses and weights that can always be written, shut gates, and refusals and requests that change nothing else. Assumes nothing.
use Rattle.std.specs.Prelude.{◌≡◌, refl, Bool, true, false, ◌&&◌, List, [], ℕ, ◌≤◌, ◌<◌, leb, ltb, eqb, ℤ, ◌-ℤ◌, length, Option, Some, None}
use Rattle.std.proofs.Common.{sym, ap, subst, ◌∙◌, arith}
use Rattle.laws.specs.Pick.{pick, pick_all, pick-if}
use Rattle.laws.specs.Whole.{true-false}
use Rattle.paper.specs.Answer.{Answer, done, refused, fault, on_done}
use Rattle.paper.specs.AnswerLaws.{refused-done, fault-done, done_refused, fault-refused, on-done, failed}
use Rattle.settings.specs.declared.Settings.{Settings}
use Rattle.settings.specs.Good.{good-ranges}
use Rattle.field.specs.Field.{writable}
use Rattle.dosing.specs.Rules.{shut, step_of}
use Rattle.dosing.specs.Gates.{gates_of, filling_open, emptying_open}
use Rattle.dosing.specs.Laws.{ready-shut, shut-fills, never_both, over-unfilled, step-amount}
use Rattle.dosing.specs.declared.Units.{Units}
use Rattle.dosing.specs.declared.Phase.TheVariants.{Ready}
use Rattle.counters.specs.Counters.{counters, counters_after, records_of}
use Rattle.counters.specs.Laws.{AllRecordable, after-storable, records-recordable, AllOf, of-product}
use Rattle.scale.specs.Scale.{over_capacity}
use Rattle.scale.specs.Laws as scale
use Rattle.asking.specs.Asking.{Asked}
use Rattle.controller.specs.State.{restarted, fresh_of, with_z}
use Rattle.controller.specs.Tick.{Result, Told, says_fault, faulted, step8, step7, seen_of, w_of, tick_of, step2}
use Rattle.controller.specs.Ready.{is_ready}
use Rattle.controller.specs.Line.{weight_of, Replied, asked_of, reply_frame, zeroed_by, replied, replies_to, request_of}
use Rattle.controller.specs.Sound.{Sound, Abandoned}
use Rattle.controller.specs.Bounds.{samples-within, clear-faulted, ready-is}
use Rattle.controller.specs.Ways.{tick-ways}
use Rattle.controller.specs.declared.Controller.{Controller}
use Rattle.controller.specs.declared.Fault.{Fault}
use Rattle.controller.specs.declared.Fault.TheVariants as F
use Rattle.paper.specs.Numbers.{R15}
use Rattle.settings.specs.Table.{first_bad, default_set, default-good}
use Rattle.controller.specs.Restart.{stored_bad, restart_of}

-- ---- restart

-- a fresh controller is a restart with both at 0 and a default set
pub fresh-restarts : restart_of default_set 0 0 ≡ done fresh_of
unfolding restart_of on_done stored_bad fresh_of pick
fresh-restarts = rw default-good

-- an accepted restart carries the count and the total given
pub restart-counters : (set : Settings) (count total : ℕ) (c : Controller) → restart_of set count total ≡ done c → c.counters ≡ counters count total
unfolding restart_of restarted
restart-counters set count total c e =
    on-done (first_bad set) _ c e (λ u good k. ap (λ (d : Controller). d.counters) (sym (failed (stored_bad count total) _ R15 [] c k).1))

-- ---- doses

-- the D line of a tick's dose is never refused
step7-recordable : (c : Controller) (start : Bool) (t : Told) → Sound c → (step7 c start).answer ≡ done t → AllRecordable t.doses
unfolding step7 step8 seen_of w_of
step7-recordable c start t s e =
    let m = step_of c.set c.phase (seen_of c start) in
    let after = counters_after c.counters m.dose in
    let same : records_of c.set.product after m.dose ≡ t.doses = cc in
    rw (sym same)
    (records-recordable c.set.product after m.dose (good-ranges c.set s.set).product (after-storable c.counters m.dose (record { count = s.count; total = s.total })).count
    (step-amount c.set c.phase (seen_of c start) (good-ranges c.set s.set) s.previous refl s.kept))

fault-undone : {X Q : Type 0} (why : Fault) (x : X) → says_fault why ≡ done x → Q
unfolding says_fault
fault-undone (F.F14 channel) x e = fault-done e
fault-undone F.F21 x e = fault-done e

pub tick-recordable : (c : Controller) (x : ℤ) (i : ℕ) (t : Told) → Sound c → (tick_of c x i).answer ≡ done t → AllRecordable t.doses
unfolding faulted
tick-recordable c x i t s =
    tick-ways (λ (r : Result Told). r.answer ≡ done t → AllRecordable t.doses)
    (λ why d sound e. fault-undone why t e)
    c x i s
    (λ a e. refused-done e)
    (λ why e' e. fault-undone why t e)
    (λ d start r e. step7-recordable d start t r.sound e)

-- it is of the product of the settings
step7-product : (c : Controller) (start : Bool) (t : Told) → (step7 c start).answer ≡ done t → AllOf c.set.product t.doses
unfolding step7 step8
step7-product c start t e =
    let m = step_of c.set c.phase (seen_of c start) in
    let after = counters_after c.counters m.dose in
    let same : records_of c.set.product after m.dose ≡ t.doses = cc in
    rw (sym same) (of-product c.set.product after m.dose)

pub tick-product : (c : Controller) (x : ℤ) (i : ℕ) (t : Told) → Sound c → (tick_of c x i).answer ≡ done t → AllOf c.set.product t.doses
unfolding faulted
tick-product c x i t s =
    tick-ways (λ (r : Result Told). r.answer ≡ done t → AllOf c.set.product t.doses)
    (λ why d sound e. fault-undone why t e)
    c x i s
    (λ a e. refused-done e)
    (λ why e' e. fault-undone why t e)
    (λ d start r e. subst (λ (k : Settings). AllOf k.product t.doses) r.set (step7-product d start t e))

-- ---- weights

-- a reply's weight field is never refused
pub weight-writable : (c : Controller) (n : ℕ) → Sound c → writable (weight_of c n) ≡ true
weight-writable c n s =
    scale.weight-writable c.set c.window c.z c.s n (omega (arith, (good-ranges c.set s.set).point)) (samples-within c s) s.zero

-- ---- gates

module _ (c : Controller) (s : Sound c) where
  phase-shut : c.phase ≡ Ready → c.gates ≡ shut
  phase-shut e = s.gates ∙ ap (gates_of c.set) e ∙ ready-shut c.set

  -- outputs 1 to 3 are shut in Ready
  pub ready-gates : is_ready c ≡ true → c.gates ≡ shut
  ready-gates e = phase-shut (ready-is c e).1

  -- and in a fault, where output 4 is on
  pub fault-gates : (why : Fault) → c.condition ≡ Some why → (c.gates ≡ shut) × (c.alarm ≡ true)
  fault-gates why e =
      let a : Abandoned (Some why) c.phase c.alarm = rw e at s.abandoned in
      (phase-shut a.0, a.1)

  -- filling and emptying gates are never open together
  pub never-together : (filling_open c.set c.gates && emptying_open c.set c.gates) ≡ false
  never-together = rw s.gates (never_both c.set c.phase s.phase)

-- in a fault no filling gate is open
pub fault-unfilled : (c : Controller) (why : Fault) → Sound c → c.condition ≡ Some why → filling_open c.set c.gates ≡ false
fault-unfilled c why s e = rw (fault-gates c s why e).0 (shut-fills c.set)

abbrev pub OverUnfilled : Controller → Type 0
OverUnfilled c = over_capacity c.set (c.f.v -ℤ c.z.v) ≡ true → filling_open c.set c.gates ≡ false

step7-unfilled : (c : Controller) (start : Bool) → Sound c → OverUnfilled (step7 c start).next
unfolding step7 step8 seen_of w_of over_capacity
step7-unfilled c start s e = over-unfilled c.set c.phase (seen_of c start) (good-ranges c.set s.set) s.phase refl e

-- after a tick that is not refused (inputs of at most 15), no filling gate is open where w is above C+9
pub tick-unfilled : (c : Controller) (x : ℤ) (i : ℕ) → Sound c → i ≤ 15 → OverUnfilled (tick_of c x i).next
unfolding faulted
tick-unfilled c x i s h =
    tick-ways (λ (r : Result Told). OverUnfilled r.next)
    (λ why d sound e. shut-fills d.set)
    c x i s
    (λ a. absurd (omega arith))
    (λ why k e. fault-unfilled c why s k)
    (λ d start r. step7-unfilled d start r.sound)

-- ---- what changes nothing

fault-unrefused : {X Q : Type 0} (why : Fault) (n : ℕ) (vs : List ℕ) → ◌≡◌ {A = Answer X} (says_fault why) (refused n vs) → Q
unfolding says_fault
fault-unrefused (F.F14 channel) n vs e = fault-refused e
fault-unrefused F.F21 n vs e = fault-refused e

-- a tick is refused only with R1, and changes nothing then
pub tick-refused : (c : Controller) (x : ℤ) (i n : ℕ) (vs : List ℕ) → Sound c → (tick_of c x i).answer ≡ refused n vs → (15 < i) × ((tick_of c x i).next ≡ c)
unfolding faulted step7 step8
tick-refused c x i n vs s =
    tick-ways (λ (r : Result Told). r.answer ≡ refused n vs → (15 < i) × (r.next ≡ c))
    (λ why d sound e. fault-unrefused why n vs e)
    c x i s
    (λ a e. (a, refl))
    (λ why k e. fault-unrefused why n vs e)
    (λ d start r e. done_refused e)

again-still : (k : Option Fault) (c : Controller) (x : ℤ) (i : ℕ) (why : Fault) → k ≡ Some why → (step2 k c x i).next ≡ c
unfolding step2
again-still None c x i why e = clear-faulted e
again-still (Some other) c x i why e = refl

-- nor does a tick in a fault change anything
pub tick-faulted : (c : Controller) (x : ℤ) (i : ℕ) (why : Fault) → c.condition ≡ Some why → (tick_of c x i).next ≡ c
unfolding tick_of
tick-faulted c x i why e = pick_all (λ (r : Result Told). r.next ≡ c) (ltb 15 i) refl (again-still c.condition c x i why e)

replies-refused : (c : Controller) (room : ℕ) (a : Answer Asked) (n : ℕ) (vs : List ℕ) → (replies_to c room a).answer ≡ refused n vs → (replies_to c room a).next ≡ c
unfolding replies_to replied
replies-refused c room (done a) n vs e =
    pick_all (λ (r : Result Replied). r.answer ≡ refused n vs → r.next ≡ c) (leb (length (reply_frame c a)) room)
    (λ k. done_refused k) (λ k. refl) e
replies-refused c room (refused m us) n vs e = refl
replies-refused c room (fault m us) n vs e = refl

pub request-refused : (c : Controller) (bytes : List ℕ) (room n : ℕ) (vs : List ℕ) → (request_of c bytes room).answer ≡ refused n vs → (request_of c bytes room).next ≡ c
unfolding request_of
request-refused c bytes room n vs e = replies-refused c room (asked_of c bytes) n vs e

replies-still : (c : Controller) (room : ℕ) (a : Asked) → eqb a.operation 0xC0 ≡ false → (replied c a room).next ≡ c
unfolding replied zeroed_by
replies-still c room a h =
    pick_all (λ (r : Result Replied). r.next ≡ c) _
    (pick-if (λ (d : Controller). d ≡ c) (eqb a.operation 0xC0) (λ e. true-false (sym e ∙ h)) (λ e. refl))
    refl

-- C2 to C5 change nothing
pub request-still : (c : Controller) (bytes : List ℕ) (room : ℕ) (a : Asked) → asked_of c bytes ≡ done a → eqb a.operation 0xC0 ≡ false → (request_of c bytes room).next ≡ c
unfolding request_of replies_to
request-still c bytes room a e h = rw e (replies-still c room a h)

-- ---- what a call changes

replies-zero : (c : Controller) (room : ℕ) (a : Answer Asked) → (z : Units) × ((replies_to c room a).next ≡ with_z z c)
unfolding replies_to replied zeroed_by
replies-zero c room (done a) =
    pick_all (λ (r : Result Replied). (z : Units) × (r.next ≡ with_z z c)) _
    (pick_all (λ (d : Controller). (z : Units) × (d ≡ with_z z c)) _ (_, refl) (c.z, refl))
    (c.z, refl)
replies-zero c room (refused n vs) = (c.z, refl)
replies-zero c room (fault n vs) = (c.z, refl)

-- a request changes Z at most
pub request-zero : (c : Controller) (bytes : List ℕ) (room : ℕ) → (z : Units) × ((request_of c bytes room).next ≡ with_z z c)
unfolding request_of
request-zero c bytes room = replies-zero c room (asked_of c bytes)

-- a line request keeps count and total
replies-counters : (c : Controller) (room : ℕ) (a : Answer Asked) → (replies_to c room a).next.counters ≡ c.counters
unfolding replies_to replied zeroed_by
replies-counters c room (done a) =
    pick_all (λ (r : Result Replied). r.next.counters ≡ c.counters) _
    (pick_all (λ (d : Controller). d.counters ≡ c.counters) _ refl refl)
    refl
replies-counters c room (refused n vs) = refl
replies-counters c room (fault n vs) = refl

pub request-counters : (c : Controller) (bytes : List ℕ) (room : ℕ) → (request_of c bytes room).next.counters ≡ c.counters
unfolding request_of
request-counters c bytes room = replies-counters c room (asked_of c bytes)
