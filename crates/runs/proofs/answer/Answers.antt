use mathlib.Core.Path.{◌≡◌, refl, sym, ap, ◌∙◌, subst}
use mathlib.Core.List.{List}
use Prim.Native.Nat.{ℕ, ◌-◌, ◌≤◌}
use native.Mathlib.Omega.{arith}
use Rattle.std.specs.Prelude.{Some}
use lib.ListN.{length, take, drop}
use lib.Seq.{length-take-le}
use Rattle.controller.specs.declared.Controller.{Controller}
use Rattle.controller.specs.declared.Requested.{Requested}
use Rattle.controller.specs.Says.{Replies}
use Rattle.calls.specs.declared.Call as read
use Rattle.calls.specs.declared.Call.TheVariants as C
use Rattle.calls.specs.Reads.{as_call, Unticked, Within, ReadsCall, read-call}
use Rattle.lines.specs.declared.Intake.{Intake}
use Rattle.lines.specs.declared.Taken.{Taken}
use Rattle.lines.specs.Intake.{next_of}
use Rattle.lines.specs.Places.{part_of}
use Rattle.script.specs.Told.{no-tick}
use Rattle.laws.specs.Decimal.{Parsed}
use Rattle.calls.specs.Call.{Call}
use Rattle.acts.specs.Makes.{Made}
use Rattle.acts.specs.Hears.{answered_in, heard-as}
use Rattle.acts.specs.Script.{Brings, brings-none, brings-then, brings-line, brings-more, line-behind, line-short, none-waits, made-read, made-asked}
use Rattle.runs.specs.Runs.{Stops}
use borrow.Author.Rules.{rules}
use Rattle.runs.proofs.answer.Goals as goal

-- ---- what a line request makes of the controller

asked : {c : Controller} (bytes : List ℕ) {call : read.Call} {n room : ℕ} {old new : List ℕ} (r : Requested) → call ≡ C.Request n room → length old ≡ room → Replies c (take n bytes) old new r → Made c (as_call bytes call) r.next
unfolding as_call
asked {c} bytes r e f h = subst (λ (k : read.Call). Made c (as_call bytes k) r.next) (sym e) (made-asked f r h)

-- a line request's bytes and its reply have room
roomy : {call : read.Call} {n room : ℕ} → call ≡ C.Request n room → Within call → (n ≤ 2048) × (room ≤ 64)
unfolding Within
roomy e w = subst Within e w

-- the lines behind it find that controller
step : (input : List ℕ) (held : Intake) (t : Taken) → t ≡ next_of held input → {first c d : Controller} {start : Intake} {from to : ℕ} {call : read.Call} {old new : List ℕ}
    → Brings first start input c held → t.next ≡ Some (from, to) → ReadsCall (take (to - from) (drop from input)) old new call → 2048 ≤ length old → Made c (as_call new call) d → Brings first start input d t.intake
step input held t e g n r h m = brings-line input held t e g n (made-read r h (line-short input held t e n) m)

-- no tick and no line request: it is answered as it is
answered-as : (s : List ℕ) (call : read.Call) → ((n room : ℕ) → call ≡ C.Request n room → ⊥) → Unticked call → Within call → answered_in s call ≡ as_call s call
unfolding answered_in as_call
answered-as s (C.Tick x i) h u w = absurd u
answered-as s (C.Request n room) h u w = absurd (h n room refl)
answered-as s (C.Modbus n room) h u w = heard-as s (C.Modbus n room) tt w
answered-as s (C.Order o) h u w = heard-as s (C.Order o) tt w
answered-as s (C.Item i) h u w = heard-as s (C.Item i) tt w
answered-as s (C.Bytes v n k) h u w = heard-as s (C.Bytes v n k) tt w
answered-as s C.Unknown h u w = refl

-- ---- the line that was found, and a line request's bytes and reply

pub slice_bounds-read-count : goal.slice_bounds-read-count
slice_bounds-read-count c = (line-behind _ _ _ c.next_line-taken.ensures c.in-Some.is).order

pub slice_bounds-read-start : goal.slice_bounds-read-start
slice_bounds-read-start c = (line-behind _ _ _ c.next_line-taken.ensures c.in-Some.is).order

pub slice_bounds-read-end : goal.slice_bounds-read-end
slice_bounds-read-end c = let b = line-behind _ _ _ c.next_line-taken.ensures c.in-Some.is in omega (arith, b.inside)

pub slice_bounds-request-end : goal.slice_bounds-request-end
slice_bounds-request-end c = omega (arith, (roomy c.in-Request.is c.read-call.ensures.within).0, c.read-call.auto.bytes, c.loop-from.auto.bytes, c.if-bytes-lt-BYTES.false)

pub slice_bounds-request-end-in-loop-from : goal.slice_bounds-request-end-in-loop-from
slice_bounds-request-end-in-loop-from c =
    sym (length-take-le _ _ (omega (arith, (roomy c.in-Request.is c.read-call.ensures.within).0, c.read-call.auto.bytes, c.loop-from.auto.bytes, c.if-bytes-lt-BYTES.false)))

pub slice_bounds-reply-end : goal.slice_bounds-reply-end
slice_bounds-reply-end c = let whole : 64 ≡ length c.loop-from.reply = search rules in omega (arith, whole, (roomy c.in-Request.is c.read-call.ensures.within).1, c.lend.auto.spare)

pub slice_bounds-request-end-in-loop-from-2 : goal.slice_bounds-request-end-in-loop-from-2
slice_bounds-request-end-in-loop-from-2 c = let whole : 64 ≡ length c.loop-from.reply = search rules in sym (length-take-le _ _ (omega (arith, whole, (roomy c.in-Request.is c.read-call.ensures.within).1, c.lend.auto.spare)))

pub loop-from-smaller : goal.loop-from-smaller
loop-from-smaller c =
    let b = line-behind _ _ _ c.next_line-taken.ensures c.in-Some.is in
    omega (arith, b.place, b.ahead, b.inside, c.ticks-reached.ensures.less)

pub loop-from-preserved : goal.loop-from-preserved
loop-from-preserved c =
    let inv = c.loop-from.invariant in
    let next = c.next_line-taken.ensures in
    let b = line-behind _ _ _ next c.in-Some.is in
    let ticked = brings-then inv.0 c.ticks-reached.ensures.brings in
    let whole : 64 ≡ length c.loop-from.reply = search rules in
    let room : c.in-Request.room ≤ length c.lend.new.spare = omega (arith, whole, (roomy c.in-Request.is c.read-call.ensures.within).1, c.lend.auto.spare) in (
      step _ _ _ next ticked c.in-Some.is c.read-call.ensures (omega (arith, c.loop-from.auto.bytes, c.if-bytes-lt-BYTES.false))
          (asked _ c.request-asked.result c.in-Request.is (length-take-le _ _ room) c.request-asked.ensures),
      omega (arith, inv.1, b.place, b.ahead, b.inside, c.ticks-reached.ensures.less),
    )

-- without room for the bytes of a line none is answered
pub returns-then-bytes-lt-BYTES : goal.returns-then-bytes-lt-BYTES
unfolding Stops
returns-then-bytes-lt-BYTES c = let sound = c.requires in record { sound = sound; stops = (brings-none sound, λ h. absurd (omega (arith, c.if-bytes-lt-BYTES.true))); none = λ h. (refl, refl, refl) }

-- every whole line is answered
pub returns-in_default : goal.returns-in_default
unfolding Stops
returns-in_default c =
    let next = c.next_line-taken.ensures in
    let ticked = brings-then c.loop-from.invariant.0 c.ticks-reached.ensures.brings in
    let brings = brings-more _ _ _ next ticked c.in_default.is in
    record { sound = brings.sound; stops = (brings, λ h. none-waits _ _ _ next c.in_default.is); none = λ h. absurd (omega (arith, c.if-bytes-lt-BYTES.false)) }

-- a call that is no tick and no line request
pub returns-in_default-call : goal.returns-in_default-call
unfolding Stops part_of
returns-in_default-call c =
    let inv = c.loop-from.invariant in
    let ticks = c.ticks-reached in
    let read = c.read-call in
    let line = c.in-Some.is in
    let next = c.next_line-taken.ensures in
    let b = line-behind _ _ _ next line in
    let ticked = brings-then inv.0 ticks.ensures.brings in
    let room : 2048 ≤ length c.loop-from.bytes = omega (arith, c.loop-from.auto.bytes, c.if-bytes-lt-BYTES.false) in
    let unticked = no-tick _ _ ticks.ensures.none (ap (λ (t : Taken). t.next) (sym next) ∙ line) _ read.result (read-call read.ensures room (line-short _ _ _ next line)) in
    record {
      sound = ticked.sound;
      stops = record {
        made = λ d m. step _ _ _ next ticked line read.ensures room (subst (λ (q : Parsed Call). Made ticks.result.controller q d) (answered-as _ read.result c.in_default-call.not-Request unticked read.ensures.within) m);
        less = omega (arith, inv.1, b.place, b.ahead, b.inside, ticks.ensures.less);
      };
      none = λ h. absurd (omega (arith, read.auto.bytes, room));
    }
