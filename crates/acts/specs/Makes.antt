-- What the calls that act promise, and that they determine everything. Assumes nothing.
use Rattle.std.specs.Prelude.{◌≡◌, refl, Result, Ok, Err}
use Rattle.std.proofs.Common.{sym, ap, ap₂, ◌∙◌}
use Rattle.laws.specs.Decimal.{Parsed}
use Rattle.paper.specs.Answer.{Answer, done, refused, fault, told, same}
use Rattle.paper.specs.AnswerLaws.{refused-done, fault-done}
use Rattle.controller.specs.declared.Controller.{Controller}
use Rattle.controller.specs.declared.RestartError.{RestartError}
use Rattle.controller.specs.declared.RestartError.TheVariants as N
use Rattle.controller.specs.Restart.{restarted_from}
use Rattle.controller.specs.Says.{says_restart}
use Rattle.setup.specs.Says.{says_set, says_reset}
use Rattle.controller.specs.Determined.{restart_back, restart-back}
use Rattle.setup.specs.Determined.{set_back, set_back_lem, reset_back, reset-back}
use Rattle.controller.specs.Sound.{Sound}
use Rattle.reasons.specs.Says.{says_reason, reason_back, reason-back}
use Rattle.calls.specs.Call.{Call}
use Rattle.acts.specs.Acts.{made_by, Said, ticked, linked, taken, cleared, counted, restarted, explained, framed, aside, unread, said_to}
use Rattle.acts.specs.declared.Answer as declared
use Rattle.acts.specs.declared.Answer.TheVariants as A
use Rattle.acts.specs.declared.Acted.{Acted}

-- ---- what the answers say

unfoldable pub says_act : declared.Answer → Said
says_act A.Link = linked
says_act (A.Set a) = taken (says_set a)
says_act (A.Reset a) = cleared (says_reset a)
says_act (A.Counters n) = counted n
says_act (A.Restart a) = restarted (says_restart a)
says_act (A.Why a) = explained (says_reason a)
says_act A.Frame = framed
says_act A.Aside = aside
says_act A.Unknown = unread

-- ---- the contracts

-- the next controller is what a call makes of it, and sound
pub record Made (c : Controller) (p : Parsed Call) (d : Controller) : Type 0 where
  pub next : d ≡ made_by c p
  pub sound : Sound d

-- and the answer is the call's
pub record Acts (c : Controller) (p : Parsed Call) (r : Acted) : Type 0 where
  pub made : Made c p r.next
  pub says : says_act r.answer ≡ said_to c p

-- the controller in use after a restart
unfoldable pub in_use : Result Controller RestartError → Controller → Controller
in_use (Ok new) old = new
in_use (Err error) old = old

-- is the one that the rule keeps
pub restart-kept : (c : Controller) (a : Answer Controller) (r : Result Controller RestartError) → says_restart r ≡ a → in_use r c ≡ restarted_from c a
unfolding in_use restarted_from
restart-kept c a (Ok d) e = rw (← e)
restart-kept c a (Err (N.R2 row)) e = rw (← e)
restart-kept c a (Err N.R15) e = rw (← e)

-- ---- two results that both meet the contract are equal

-- what an answer says gives it back
said_back : Said → declared.Answer
said_back (ticked a) = A.Aside
said_back linked = A.Link
said_back (taken a) = A.Set (set_back a)
said_back (cleared a) = A.Reset (reset_back a)
said_back (counted n) = A.Counters n
said_back (restarted a) = A.Restart (restart_back a)
said_back (explained a) = A.Why (reason_back a)
said_back framed = A.Frame
said_back aside = A.Aside
said_back unread = A.Unknown

said-back : (a : declared.Answer) → said_back (says_act a) ≡ a
unfolding said_back says_act
said-back A.Link = refl
said-back (A.Set a) = ap A.Set (set_back_lem a)
said-back (A.Reset a) = ap A.Reset (reset-back a)
said-back (A.Counters n) = refl
said-back (A.Restart a) = ap A.Restart (restart-back a)
said-back (A.Why a) = ap A.Why (reason-back a)
said-back A.Frame = refl
said-back A.Aside = refl
said-back A.Unknown = refl

pub acts-determined : {c : Controller} {p : Parsed Call} {a b : Acted} → Acts c p a → Acts c p b → a ≡ b
acts-determined {a = a} {b = b} p q =
    ap₂ {C = Acted} (λ (d : Controller) (x : declared.Answer). record { next = d; answer = x })
    (same p.made.next q.made.next)
    (sym (said-back a.answer) ∙ ap said_back (same p.says q.says) ∙ said-back b.answer)
