-- What a reason says in document 02's words, the contract of the call, and that two answers that both meet it are equal. Assumes nothing.
use Rattle.std.specs.Prelude.{◌≡◌, refl, [], ℕ, Result, Ok, Err}
use Rattle.std.proofs.Common.{sym, ap, ◌∙◌}
use Rattle.paper.specs.Numbers.{R19}
use Rattle.paper.specs.Answer.{Answer, done, refused, fault, same}
use Rattle.controller.specs.declared.Controller.{Controller}
use Rattle.dosing.specs.Rules.{units}
use Rattle.reasons.specs.Reasons.{PhaseName, ready, fill, settle, discharge, load, calm, dose, Cause, is_open, in_fault, unused, no_start, settling, lead_reached, in_phase, overload, no_alarm, why_of}
use Rattle.reasons.specs.declared.Name.{Name}
use Rattle.reasons.specs.declared.Name.TheVariants as N
use Rattle.reasons.specs.declared.Reason.{Reason}
use Rattle.reasons.specs.declared.Reason.TheVariants as R
use Rattle.reasons.specs.declared.ReasonError.{ReasonError}
use Rattle.reasons.specs.declared.ReasonError.TheVariants as E

abbrev pub says_name : Name → PhaseName
says_name N.Ready = ready
says_name N.Fill = fill
says_name N.Settle = settle
says_name N.Discharge = discharge
says_name N.Load = load
says_name N.Calm = calm
says_name N.Dose = dose

abbrev pub cause_of : Reason → Cause
cause_of R.Open = is_open
cause_of (R.Fault number channel) = in_fault number channel
cause_of R.Unused = unused
cause_of R.NoStart = no_start
cause_of (R.Settling gone allowed) = settling gone allowed
cause_of (R.Lead w limit) = lead_reached w.v limit
cause_of (R.Phase name) = in_phase (says_name name)
cause_of R.Overload = overload
cause_of R.NoAlarm = no_alarm

abbrev pub says_reason : Result Reason ReasonError → Answer Cause
says_reason (Ok r) = done (cause_of r)
says_reason (Err E.R19) = refused R19 []

-- ---- the contract

abbrev pub Explains : Controller → ℕ → Result Reason ReasonError → Type 0
Explains c k r = says_reason r ≡ why_of c k

-- ---- it is met by one answer: what a reason says gives it back

name_back : PhaseName → Name
name_back ready = N.Ready
name_back fill = N.Fill
name_back settle = N.Settle
name_back discharge = N.Discharge
name_back load = N.Load
name_back calm = N.Calm
name_back dose = N.Dose

name_back_lem : (n : Name) → name_back (says_name n) ≡ n
unfolding name_back
name_back_lem N.Ready = refl
name_back_lem N.Fill = refl
name_back_lem N.Settle = refl
name_back_lem N.Discharge = refl
name_back_lem N.Load = refl
name_back_lem N.Calm = refl
name_back_lem N.Dose = refl

cause_back : Cause → Reason
cause_back is_open = R.Open
cause_back (in_fault number channel) = R.Fault number channel
cause_back unused = R.Unused
cause_back no_start = R.NoStart
cause_back (settling gone allowed) = R.Settling gone allowed
cause_back (lead_reached w limit) = R.Lead (units w) limit
cause_back (in_phase name) = R.Phase (name_back name)
cause_back overload = R.Overload
cause_back no_alarm = R.NoAlarm

pub reason_back : Answer Cause → Result Reason ReasonError
reason_back (done cause) = Ok (cause_back cause)
reason_back (refused n vs) = Err E.R19
reason_back (fault n vs) = Err E.R19

cause-back : (r : Reason) → cause_back (cause_of r) ≡ r
unfolding cause_back
cause-back R.Open = refl
cause-back (R.Fault number channel) = refl
cause-back R.Unused = refl
cause-back R.NoStart = refl
cause-back (R.Settling gone allowed) = refl
cause-back (R.Lead w limit) = refl
cause-back (R.Phase name) = ap (λ (n : Name). R.Phase n) (name_back_lem name)
cause-back R.Overload = refl
cause-back R.NoAlarm = refl

pub reason-back : (a : Result Reason ReasonError) → reason_back (says_reason a) ≡ a
unfolding reason_back
reason-back (Ok r) = ap (λ (x : Reason). Ok x) (cause-back r)
reason-back (Err E.R19) = refl

pub reason-one : (a b : Result Reason ReasonError) → says_reason a ≡ says_reason b → a ≡ b
reason-one a b e = sym (reason-back a) ∙ ap reason_back e ∙ reason-back b

pub why-determined : (c : Controller) (k : ℕ) (a b : Result Reason ReasonError) → Explains c k a → Explains c k b → a ≡ b
why-determined c k a b p q = reason-one a b (same p q)
