use mathlib.Core.Path.{◌≡◌, refl, sym, subst}
use mathlib.Core.List.{List}
use Prim.Native.Nat.{ℕ}
use Rattle.controller.specs.declared.Controller.{Controller}
use Rattle.controller.specs.Sound.{Sound}
use Rattle.series.specs.Events.{run}
use Rattle.calls.specs.declared.Call as read
use Rattle.calls.specs.declared.Call.TheVariants as C
use Rattle.calls.specs.declared.Order.{Order}
use Rattle.calls.specs.Reads.{as_call}
use Rattle.acts.specs.Acts.{call_events, events_in, made_by}
use Rattle.acts.specs.Makes.{Made}
use Rattle.acts.specs.Hears.{heard_in, answered_in}
use Rattle.answers.proofs.put.Goals as goal

-- a call by what it was found to be
called : {c d : Controller} (s : List ℕ) {a b : read.Call} → a ≡ b → Made c (answered_in s b) d → Made c (answered_in s a) d
called {c} {d} s e h = subst (λ (call : read.Call). Made c (answered_in s call) d) (sym e) h

-- what needs no box, or is no call, leaves it
stays : {c : Controller} (s : List ℕ) (call : read.Call) → ((n room : ℕ) → call ≡ C.Modbus n room → ⊥) → ((x : Order) → call ≡ C.Order x → ⊥) → Sound c → Made c (answered_in s call) c
unfolding answered_in heard_in as_call made_by events_in call_events run
stays s (C.Tick x i) m o k = record { next = refl; sound = k }
stays s (C.Request n room) m o k = record { next = refl; sound = k }
stays s (C.Modbus n room) m o k = absurd (m n room refl)
stays s (C.Order x) m o k = absurd (o x refl)
stays s (C.Item i) m o k = record { next = refl; sound = k }
stays s (C.Bytes u n x) m o k = record { next = refl; sound = k }
stays s C.Unknown m o k = record { next = refl; sound = k }

pub returns-in-Modbus : goal.returns-in-Modbus
unfolding answered_in heard_in as_call
returns-in-Modbus c = called c.args.bytes.now c.in-Modbus.is c.poll.ensures

pub returns-in-Order : goal.returns-in-Order
unfolding answered_in heard_in as_call
returns-in-Order c = called c.args.bytes.now c.in-Order.is c.order-acted.ensures.made

pub returns-in_default : goal.returns-in_default
returns-in_default c = stays c.args.bytes.now c.args.call c.in_default.not-Modbus c.in_default.not-Order c.requires
