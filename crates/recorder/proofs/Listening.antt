-- What a line was, from the contracts of the reader and of what acts, and what it adds. Assumes nothing.
use mathlib.Core.Path.{◌≡◌, refl, sym, ap, ◌∙◌, subst}
use mathlib.Core.List.{List, []}
use Prim.Native.Nat.{ℕ, ◌≤◌}
use lib.IntN.{ℤ}
use mir.Syntax.{w32}
use mir.Val.{SFits, to_z, of_z}
use mir.Facts.{to_z-of_z}
use lib.ListN.{length}
use Rattle.std.specs.Prelude.{Option, Some, None, Result, Ok, Err}
use Rattle.controller.specs.declared.Controller.{Controller}
use Rattle.controller.specs.declared.Ticked.{Ticked}
use Rattle.controller.specs.declared.Fault.{Fault}
use Rattle.controller.specs.declared.Fault.TheVariants as F
use Rattle.controller.specs.Sound.{Sound}
use Rattle.controller.specs.declared.RestartError.{RestartError}
use Rattle.controller.specs.declared.RestartError.TheVariants as N
use Rattle.controller.specs.Says.{TickAnswer, records_in_dose, says_tick, says_restart, Ticks}
use Rattle.controller.specs.Tick.{says_fault}
use Rattle.controller.specs.declared.Outputs.{Outputs}
use Rattle.controller.specs.declared.TickError.{TickError}
use Rattle.controller.specs.declared.TickError.TheVariants as T
use Rattle.counters.specs.declared.Record.{Record}
use Rattle.laws.specs.Decimal.{good}
use Rattle.calls.specs.Call.{tick, call_of}
use Rattle.calls.specs.Reads.{as_call, Unticked, ReadsCall}
use Rattle.calls.specs.declared.Call as read
use Rattle.acts.specs.Acts.{made_by, said_to}
use Rattle.acts.specs.Makes.{says_act, Acts}
use Rattle.acts.specs.Hears.{heard_in, heard-as}
use Rattle.acts.specs.Script.{made-tick}
use Rattle.acts.specs.declared.Acted.{Acted}
use Rattle.acts.specs.declared.Answer as acts
use Rattle.acts.specs.declared.Answer.TheVariants as A
use Rattle.clock.specs.Clock.{note, heard_by, passed_by}
use Rattle.clock.specs.Marking.{Writable, Writes, writes_as, Opens, Marks}
use Rattle.clock.specs.Keeps.{fitted-is, does-writes, heard-passed}
use Rattle.clock.specs.declared.Heard.{Heard}
use Rattle.clock.specs.declared.Heard.TheVariants as H
use Rattle.clock.specs.declared.Stage.{Stage}
use Rattle.clock.specs.declared.Stage.TheVariants.{First, Recording, Over}
use Rattle.clock.specs.declared.Clock.{Clock}
use Rattle.clock.specs.declared.Marked.{Marked}
use Rattle.recorder.specs.Recording.{heard_doses, heard_tick, heard_restart, heard_said, heard_of, with, note_by, note_of, box_by}
use Rattle.recorder.specs.Noting.{Hears}
use Rattle.recorder.specs.Keeps.{heard-writable}

-- a tick in a fault is counted
pub fault-heard : (f : Fault) → heard_tick (says_fault f) ≡ H.Ticked
unfolding heard_tick says_fault
fault-heard (F.F14 channel) = refl
fault-heard F.F21 = refl

-- what a tick was, by its answer
module _ (a : TickAnswer) where
  pub heard-none : (o : Outputs) → a ≡ Ok o → o.dose ≡ None → H.Ticked ≡ heard_tick (says_tick a)
  unfolding heard_tick heard_doses
  heard-none o e n = sym (ap (λ (x : TickAnswer). heard_tick (says_tick x)) e ∙ ap (λ (d : Option Record). heard_doses (records_in_dose d)) n)

  pub heard-dose : (o : Outputs) (r : Record) → a ≡ Ok o → o.dose ≡ Some r → H.Dosed r ≡ heard_tick (says_tick a)
  unfolding heard_tick heard_doses
  heard-dose o r e n = sym (ap (λ (x : TickAnswer). heard_tick (says_tick x)) e ∙ ap (λ (d : Option Record). heard_doses (records_in_dose d)) n)

  pub heard-fault : (t : TickError) (f : Fault) → a ≡ Err t → t ≡ T.Fault f → H.Ticked ≡ heard_tick (says_tick a)
  heard-fault t f e n =
      sym (ap (λ (x : TickAnswer). heard_tick (says_tick x)) e ∙ ap (λ (x : TickError). heard_tick (says_tick (Err x))) n ∙ fault-heard f)

  pub heard-r1 : (t : TickError) → a ≡ Err t → t ≡ T.R1 → H.Other ≡ heard_tick (says_tick a)
  unfolding heard_tick
  heard-r1 t e n = sym (ap (λ (x : TickAnswer). heard_tick (says_tick x)) e ∙ ap (λ (x : TickError). heard_tick (says_tick (Err x))) n)

-- a refused restart changes nothing
pub refused-heard : (e : RestartError) → H.Other ≡ heard_restart (says_restart (Err e))
unfolding heard_restart
refused-heard (N.R2 row) = refl
refused-heard N.R15 = refl

-- an answer that is neither a restart's nor that the line is no call
pub other-answer : (a : acts.Answer) → ((r : Result (Unit {0}) RestartError) → a ≡ A.Restart r → ⊥) → (a ≡ A.Unknown → ⊥) → H.Other ≡ heard_said (says_act a)
unfolding heard_said says_act
other-answer A.Link h k = refl
other-answer (A.Set a) h k = refl
other-answer (A.Reset a) h k = refl
other-answer (A.Counters n) h k = refl
other-answer (A.Restart a) h k = absurd (h a refl)
other-answer (A.Why a) h k = refl
other-answer A.Frame h k = refl
other-answer A.Aside h k = refl
other-answer A.Unknown h k = absurd (k refl)

-- ---- a line before or after recording

-- after it where it is not the first
pub is-over : {s : Stage} → (s ≡ Recording → ⊥) → (s ≡ First → ⊥) → s ≡ Over
is-over {s = First} h g = absurd (g refl)
is-over {s = Recording} h g = absurd (h refl)
is-over {s = Over} h g = refl

module _ (c : Controller) (k : Clock) (l : List ℕ) where
  pub first-box : k.stage ≡ First → c ≡ box_by k.stage c l
  unfolding box_by
  first-box e = sym (ap (λ (s : Stage). box_by s c l) e)

  pub first-writes : k.stage ≡ First → {old new : List ℕ} {m : Marked} → 64 ≤ length old → Opens k l old new m → Writes (note_of (with c k) l) old new m
  unfolding note_of note_by
  first-writes e room m = writes_as (ap (λ (s : Stage). note_by s (with c k) l) e) (does-writes room refl m)

  pub over-box : k.stage ≡ Over → c ≡ box_by k.stage c l
  unfolding box_by
  over-box e = sym (ap (λ (s : Stage). box_by s c l) e)

  pub over-note : k.stage ≡ Over → note_of (with c k) l ≡ note k []
  unfolding note_of note_by
  over-note e = ap (λ (s : Stage). note_by s (with c k) l) e

-- ---- a line that is heard

-- what it makes of the box, and what it was
pub record Heard-as (c : Controller) (l : List ℕ) (d : Controller) (h : Heard) : Type 0 where
  pub box : d ≡ made_by c (call_of l)
  pub heard : h ≡ heard_of c (call_of l)

-- a tick
pub sighted-heard : {l : List ℕ} {c : Controller} {x : ℤ} {i : ℕ} {h : Heard} (r : Ticked) → call_of l ≡ good (tick x i) [] → SFits w32 x → Ticks c (to_z w32 (of_z w32 x)) i r → h ≡ heard_tick (says_tick r.answer) → Heard-as c l r.next h
unfolding heard_of heard_said said_to as_call
sighted-heard {c = c} {i = i} r call fits told e =
    let t = subst (λ (x : ℤ). Ticks c x i r) (to_z-of_z fits) told in
    record { box = (made-tick [] r t).next ∙ ap (made_by c) (sym call); heard = e ∙ ap heard_tick t.says ∙ ap (heard_of c) (sym call) }

-- any other call
pub other-heard : {l old new : List ℕ} {c : Controller} {h : Heard} {call : read.Call} {r : Acted} → as_call new call ≡ call_of l → Unticked call → ReadsCall l old new call
    → Acts c (heard_in new call) r → Hears r.answer h → Heard-as c l r.next h
unfolding heard_of
other-heard {new = new} {c} {call = read} is other p a e =
    let call = heard-as new read other p.within ∙ is in
    record { box = a.made.next ∙ ap (made_by c) call; heard = e.is ∙ ap heard_said (a.says ∙ ap (said_to c) call) }

-- and what it adds while recording
module _ {c d : Controller} {l : List ℕ} {h : Heard} (k : Clock) (s : k.stage ≡ Recording) (e : Heard-as c l d h) where
  pub recorded-box : d ≡ box_by k.stage c l
  unfolding box_by
  recorded-box = e.box ∙ ap (λ (t : Stage). box_by t c l) (sym s)

  recorded-note : note_of (with c k) l ≡ heard_by k h
  unfolding note_of note_by
  recorded-note = ap (λ (t : Stage). note_by t (with c k) l) s ∙ ap (heard_by k) (sym e.heard)

  pub ticked-writes : {old new : List ℕ} {m : Marked} → Sound c → 64 ≤ length old → Marks k h old new m → Writes (note_of (with c k) l) old new m
  ticked-writes a room m = writes_as recorded-note (does-writes room (fitted-is k h (subst Writable (sym e.heard) (heard-writable c (call_of l) a))) m)

  pub passed-note : {n : Clock} {a : acts.Answer} → Hears a h → n ≡ passed_by k h → note_of (with c k) l ≡ note n []
  passed-note a p = recorded-note ∙ heard-passed k a.uncounted ∙ ap (λ (x : Clock). note x []) (sym p)
