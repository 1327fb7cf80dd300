-- What the controller's answers say in the paper's words, and the contract of each call. Assumes nothing.
use Rattle.std.specs.Prelude.{◌≡◌, List, [], ◌∷◌, ℕ, ℤ, length, Option, Some, None, Result, Ok, Err, IfOk}
use Rattle.paper.specs.Answer.{Answer, done, refused, told, leaves}
use Rattle.paper.specs.Numbers.{R1, R2, R15}
use Rattle.controller.specs.State.{fresh_of}
use Rattle.controller.specs.Restart.{restart_of}
use Rattle.settings.specs.declared.Settings.{Settings}
use Rattle.settings.specs.declared.SettingError.{SettingError}
use Rattle.settings.specs.declared.SettingError.TheVariants as S
use Rattle.controller.specs.Tick.{Told, says_fault, tick_of}
use Rattle.controller.specs.Line.{Replied, request_of}
use Rattle.controller.specs.Sound.{Sound}
use Rattle.controller.specs.Made.{Made}
use Rattle.controller.specs.declared.Controller.{Controller}
use Rattle.controller.specs.declared.Outputs.{Outputs}
use Rattle.controller.specs.declared.TickError.{TickError}
use Rattle.controller.specs.declared.TickError.TheVariants as T
use Rattle.counters.specs.declared.Record.{Record}
use Rattle.controller.specs.declared.Ticked.{Ticked}
use Rattle.controller.specs.declared.RestartError.{RestartError}
use Rattle.controller.specs.declared.RestartError.TheVariants as N
use Rattle.asking.specs.declared.RequestError.{RequestError}
use Rattle.asking.specs.Says.{says_error}
use Rattle.dosing.specs.declared.Units.{Units}
use Rattle.controller.specs.State.{with_z}
use Rattle.controller.specs.declared.Sent.{Sent}
use Rattle.controller.specs.declared.Requested.{Requested}

-- ---- the answers

-- the dose record, if one completed
abbrev pub records_in_dose : Option Record → List Record
records_in_dose None = []
records_in_dose (Some r) = r ∷ []

abbrev pub told_by : Outputs → Told
told_by o = record { outputs = o.outputs; doses = records_in_dose o.dose }

abbrev pub TickAnswer : Type 0
TickAnswer = Result Outputs TickError

abbrev pub says_tick : TickAnswer → Answer Told
says_tick (Ok o) = done (told_by o)
says_tick (Err (T.Fault f)) = says_fault f
says_tick (Err T.R1) = refused R1 []

-- with the controller that it makes, or with no value
abbrev pub says_restart : {X : Type 0} → Result X RestartError → Answer X
says_restart (Ok x) = done x
says_restart (Err (N.R2 row)) = refused R2 (row ∷ [])
says_restart (Err N.R15) = refused R15 []

-- the check's refusal, passed on
abbrev pub restart_error : SettingError → RestartError
restart_error (S.R2 row) = N.R2 row

-- the place of the second closing FF and the reply's length; each refusal with its place
abbrev pub says_reply : Result Sent RequestError → Answer (ℕ × ℕ)
says_reply (Ok s) = done (s.place, s.len)
says_reply (Err e) = says_error e

-- ---- the contracts: the next controller, the answer and the lent memory are the rule's, and the next controller is sound

pub record Ticks (c : Controller) (sample : ℤ) (inputs : ℕ) (r : Ticked) : Type 0 where
  pub next : r.next ≡ (tick_of c sample inputs).next
  pub says : says_tick r.answer ≡ (tick_of c sample inputs).answer
  pub sound : Sound r.next

abbrev pub Freshens : Controller → Type 0
Freshens r = Made fresh_of r

-- nothing but that it is done
abbrev pub no_value : Controller → Unit {0}
no_value c = tt

-- a refused restart makes no controller
pub record Restarts (set : Settings) (count total : ℕ) (r : Result Controller RestartError) : Type 0 where
  pub says : says_restart r ≡ restart_of set count total
  pub sound : IfOk r Sound

abbrev pub place_and_length : Replied → ℕ × ℕ
place_and_length p = (p.place, length p.bytes)

abbrev pub bytes_of : Replied → List ℕ
bytes_of p = p.bytes

pub record Replies (c : Controller) (s old new : List ℕ) (r : Requested) : Type 0 where
  pub next : r.next ≡ (request_of c s (length old)).next
  pub says : says_reply r.answer ≡ told place_and_length (request_of c s (length old)).answer
  pub left : new ≡ leaves (told bytes_of (request_of c s (length old)).answer) old
  pub sound : Sound r.next

-- a request that is answered sets Z at most, and a refusal changes nothing
abbrev pub requested : Controller → Result (Units × Sent) RequestError → Requested
requested c (Ok p) = record { next = with_z p.0 c; answer = Ok p.1 }
requested c (Err e) = record { next = c; answer = Err e }
