-- Two results that both meet a call's contract are equal. Assumes nothing.
use Rattle.std.specs.Prelude.{◌≡◌, refl, List, [], ◌∷◌, ℕ, eqb, ℤ, get_or, Option, Some, None, Result, Ok, Err}
use Rattle.std.proofs.Common.{sym, ◌∙◌, ap, ap₂}
use Rattle.laws.specs.Pick.{pick}
use Rattle.paper.specs.Answer.{Answer, done, refused, fault, same}
use Rattle.paper.specs.Numbers.{R15, F14}
use Rattle.settings.specs.declared.Settings.{Settings}
use Rattle.counters.specs.declared.Record.{Record}
use Rattle.controller.specs.Tick.{Told, says_fault}
use Rattle.controller.specs.Says.{TickAnswer, records_in_dose, says_tick, says_restart, says_reply, Ticks, Freshens, Restarts, Replies}
use Rattle.controller.specs.declared.Controller.{Controller}
use Rattle.controller.specs.declared.Fault.TheVariants as F
use Rattle.controller.specs.declared.TickError.TheVariants as T
use Rattle.controller.specs.declared.Ticked.{Ticked}
use Rattle.controller.specs.declared.RestartError.{RestartError}
use Rattle.controller.specs.declared.RestartError.TheVariants as N
use Rattle.asking.specs.declared.RequestError.{RequestError}
use Rattle.asking.specs.declared.RequestError.TheVariants as P
use Rattle.asking.specs.Says.{error_back}
use Rattle.controller.specs.declared.Sent.{Sent}
use Rattle.controller.specs.declared.Requested.{Requested}

-- ---- two answers that say the same are equal: what an answer says gives it back

pub back_one : {A B : Type 0} (says : A → B) (back : B → A) → ((a : A) → back (says a) ≡ a) → (a b : A) → says a ≡ says b → a ≡ b
back_one says back law a b e = sym (law a) ∙ ap back e ∙ law b

-- the first of what a number names
abbrev pub named : List ℕ → ℕ
named vs = get_or vs 0 0

told_back : ℕ → List Record → TickAnswer
told_back o [] = Ok (record { outputs = o; dose = None })
told_back o (r ∷ rs) = Ok (record { outputs = o; dose = Some r })

pub tick_back : Answer Told → TickAnswer
tick_back (done t) = told_back t.outputs t.doses
tick_back (refused n vs) = Err T.R1
tick_back (fault n vs) = Err (T.Fault (pick (eqb n F14) (F.F14 (named vs)) F.F21))

outputs-back : (n : ℕ) (d : Option Record) → told_back n (records_in_dose d) ≡ Ok (record { outputs = n; dose = d })
unfolding told_back
outputs-back n None = refl
outputs-back n (Some r) = refl

pub tick-back : (a : TickAnswer) → tick_back (says_tick a) ≡ a
unfolding tick_back told_back says_fault pick
tick-back (Ok o) = outputs-back o.outputs o.dose
tick-back (Err (T.Fault (F.F14 channel))) = refl
tick-back (Err (T.Fault F.F21)) = refl
tick-back (Err T.R1) = refl

pub tick-one : (a b : TickAnswer) → says_tick a ≡ says_tick b → a ≡ b
tick-one = back_one says_tick tick_back tick-back

pub restart_back : {X : Type 0} → Answer X → Result X RestartError
restart_back (done x) = Ok x
restart_back (refused n vs) = Err (pick (eqb n R15) N.R15 (N.R2 (named vs)))
restart_back (fault n vs) = Err N.R15

pub restart-back : {X : Type 0} (a : Result X RestartError) → restart_back (says_restart a) ≡ a
unfolding restart_back pick
restart-back (Ok x) = refl
restart-back (Err (N.R2 row)) = refl
restart-back (Err N.R15) = refl

pub restart-one : {X : Type 0} (a b : Result X RestartError) → says_restart a ≡ says_restart b → a ≡ b
restart-one = back_one says_restart restart_back restart-back

pub reply_back : Answer (ℕ × ℕ) → Result Sent RequestError
reply_back (done p) = Ok (record { place = p.0; len = p.1 })
reply_back (refused n vs) = Err (error_back n vs)
reply_back (fault n vs) = Err (P.R9 0)

pub reply-back : (a : Result Sent RequestError) → reply_back (says_reply a) ≡ a
unfolding reply_back error_back pick
reply-back (Ok s) = refl
reply-back (Err (P.R9 place)) = refl
reply-back (Err (P.R6 place)) = refl
reply-back (Err (P.R5 place)) = refl
reply-back (Err (P.R7 place)) = refl
reply-back (Err (P.R3 place)) = refl
reply-back (Err (P.R4 place)) = refl
reply-back (Err (P.R8 place)) = refl

pub reply-one : (a b : Result Sent RequestError) → says_reply a ≡ says_reply b → a ≡ b
reply-one = back_one says_reply reply_back reply-back

-- ---- two results that both meet a call's contract are equal

pub fresh-determined : (a b : Controller) → Freshens a → Freshens b → a ≡ b
fresh-determined a b p q = same p.is q.is

pub restart-determined : (set : Settings) (count total : ℕ) (a b : Result Controller RestartError) → Restarts set count total a → Restarts set count total b → a ≡ b
restart-determined set count total a b p q = restart-one a b (same p.says q.says)

pub tick-determined : (c : Controller) (x : ℤ) (i : ℕ) (a b : Ticked) → Ticks c x i a → Ticks c x i b → a ≡ b
tick-determined c x i a b p q =
    ap₂ {C = Ticked} (λ (d : Controller) (y : TickAnswer). record { next = d; answer = y })
    (same p.next q.next) (tick-one a.answer b.answer (same p.says q.says))

-- with the lent memory after the call
pub request-determined : (c : Controller) (s old new new' : List ℕ) (a b : Requested) → Replies c s old new a → Replies c s old new' b → (a ≡ b) × (new ≡ new')
request-determined c s old new new' a b p q = (
  ap₂ {C = Requested} (λ (d : Controller) (x : Result Sent RequestError). record { next = d; answer = x })
      (same p.next q.next) (reply-one a.answer b.answer (same p.says q.says)),
  same p.left q.left,
)
