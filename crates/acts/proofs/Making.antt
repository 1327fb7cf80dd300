-- What a call gives from the contract of the box's call that it makes. Assumes nothing.
use mathlib.Core.Path.{◌≡◌, refl, sym, ap, ◌∙◌, subst}
use mathlib.Core.List.{List, []}
use Prim.Native.Nat.{ℕ}
use Rattle.std.specs.Prelude.{Result, Ok, Err, IfOk}
use Rattle.laws.specs.Decimal.{Parsed, good}
use Rattle.paper.specs.Answer.{told}
use Rattle.settings.specs.declared.Settings.{Settings}
use Rattle.controller.specs.declared.Controller.{Controller}
use Rattle.controller.specs.declared.RestartError.{RestartError}
use Rattle.controller.specs.declared.RestartError.TheVariants as N
use Rattle.controller.specs.Restart.{restart_of}
use Rattle.controller.specs.Says.{says_restart, no_value, Restarts}
use Rattle.controller.specs.Sound.{Sound}
use Rattle.series.specs.Events.{event_of, run}
use Rattle.calls.specs.Call.{Call, order}
use Rattle.calls.specs.declared.Call as read
use Rattle.calls.specs.declared.Order.{Order}
use Rattle.calls.specs.declared.Order.TheVariants.{Restart}
use Rattle.acts.specs.Acts.{order_events, call_events, events_in, made_by, restarted, said_of, said_to}
use Rattle.acts.specs.Makes.{says_act, Acts, in_use, restart-kept}
use Rattle.acts.specs.Hears.{heard_in}
use Rattle.acts.specs.declared.Answer.TheVariants as A
use Rattle.acts.specs.declared.Acted.{Acted}

-- what a restart answers: that it is done, or its refusal
abbrev pub answer_of : Result Controller RestartError → Result (Unit {0}) RestartError
answer_of (Ok d) = Ok tt
answer_of (Err error) = Err error

-- is what the rule tells of it
answer-told : (r : Result Controller RestartError) → says_restart (answer_of r) ≡ told no_value (says_restart r)
unfolding told
answer-told (Ok d) = refl
answer-told (Err (N.R2 row)) = refl
answer-told (Err N.R15) = refl

-- the controller in use after a restart is sound
in-use-sound : (r : Result Controller RestartError) (old : Controller) → Sound old → IfOk r Sound → Sound (in_use r old)
unfolding in_use
in-use-sound (Ok new) old s h = h
in-use-sound (Err error) old s h = s

pub acts-restart : {c : Controller} {set : Settings} {count total : ℕ} (r : Result Controller RestartError) → Sound c → Restarts set count total r
    → Acts c (good (order (Restart set count total)) []) (record { next = in_use r c; answer = A.Restart (answer_of r) })
unfolding made_by events_in call_events order_events run event_of said_to said_of says_act
acts-restart {c} {set} {count} {total} r s h = record {
  made = record { next = restart-kept c (restart_of set count total) r h.says; sound = in-use-sound r c s h.sound };
  says = ap restarted (answer-told r ∙ ap (told no_value) h.says);
}

-- an order or a call, by what it was found to be
pub ordered-as : {c : Controller} {a b : Order} {r : Acted} → a ≡ b → Acts c (good (order b) []) r → Acts c (good (order a) []) r
ordered-as {c} {r = r} e h = subst (λ (o : Order). Acts c (good (order o) []) r) (sym e) h

pub heard-by : {c : Controller} (s : List ℕ) {a b : read.Call} {r : Acted} → a ≡ b → Acts c (heard_in s b) r → Acts c (heard_in s a) r
heard-by {c} s {r = r} e h = subst (λ (call : read.Call). Acts c (heard_in s call) r) (sym e) h

-- what is heard as another call
pub acts-as : {c : Controller} {p q : Parsed Call} {r : Acted} → p ≡ q → Acts c p r → Acts c q r
acts-as {c} {r = r} e a = subst (λ (p : Parsed Call). Acts c p r) e a
