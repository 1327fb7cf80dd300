-- Two results that both meet the contract are equal. Assumes nothing.
use Rattle.std.specs.Prelude.{◌≡◌, refl, List, ℕ, eqb, Result, Ok, Err}
use Rattle.std.proofs.Common.{ap₂}
use Rattle.laws.specs.Pick.{pick}
use Rattle.paper.specs.Answer.{Answer, done, refused, fault, same, fills_one}
use Rattle.paper.specs.Numbers.{R17}
use Rattle.controller.specs.Determined.{back_one}
use Rattle.controller.specs.declared.Controller.{Controller}
use Rattle.panel.specs.Says.{says_poll, Polls}
use Rattle.panel.specs.declared.PollError.{PollError}
use Rattle.panel.specs.declared.PollError.TheVariants as M
use Rattle.panel.specs.declared.Polled.{Polled}

-- what an answer says gives it back
pub poll_back : Answer ℕ → Result ℕ PollError
poll_back (done n) = Ok n
poll_back (refused n vs) = pick (eqb n R17) (Err M.R17) (Err M.R8)
poll_back (fault n vs) = Err M.R8

pub poll-back : (a : Result ℕ PollError) → poll_back (says_poll a) ≡ a
unfolding poll_back pick
poll-back (Ok n) = refl
poll-back (Err M.R17) = refl
poll-back (Err M.R8) = refl

pub poll-one : (a b : Result ℕ PollError) → says_poll a ≡ says_poll b → a ≡ b
poll-one = back_one says_poll poll_back poll-back

-- with the lent memory after the call
pub modbus-determined : (c : Controller) (frame old new new' : List ℕ) (a b : Polled) → Polls c frame old new a → Polls c frame old new' b → (a ≡ b) × (new ≡ new')
modbus-determined c frame old new new' a b p q =
    let f = fills_one p.fills q.fills in
    (ap₂ {C = Polled} (λ (d : Controller) (x : Result ℕ PollError). record { next = d; answer = x }) (same p.next q.next) (poll-one a.answer b.answer f.0), f.1)
