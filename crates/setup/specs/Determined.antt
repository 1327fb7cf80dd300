-- Two results that both meet a call's contract are equal. Assumes nothing.
use Rattle.std.specs.Prelude.{◌≡◌, refl, Bool, eqb, Result, Ok, Err}
use Rattle.std.proofs.Common.{ap₂}
use Rattle.laws.specs.Pick.{pick}
use Rattle.paper.specs.Answer.{Answer, done, refused, fault, same}
use Rattle.paper.specs.Numbers.{R3}
use Rattle.settings.specs.declared.Settings.{Settings}
use Rattle.counters.specs.declared.Counters.{Counters}
use Rattle.controller.specs.Determined.{back_one, named}
use Rattle.controller.specs.declared.Controller.{Controller}
use Rattle.setup.specs.Says.{says_set, says_reset, Links, Counted, Sets, Resets}
use Rattle.setup.specs.declared.SetError.{SetError}
use Rattle.setup.specs.declared.SetError.TheVariants as S
use Rattle.setup.specs.declared.Configured.{Configured}
use Rattle.setup.specs.declared.ResetError.{ResetError}
use Rattle.setup.specs.declared.ResetError.TheVariants as C
use Rattle.setup.specs.declared.Cleared.{Cleared}

-- ---- what an answer says gives it back

pub set_back : Answer (Unit {0}) → Result (Unit {0}) SetError
set_back (done u) = Ok tt
set_back (refused n vs) = Err (pick (eqb n R3) S.R3 (S.R2 (named vs)))
set_back (fault n vs) = Ok tt

pub set_back_lem : (a : Result (Unit {0}) SetError) → set_back (says_set a) ≡ a
unfolding set_back pick
set_back_lem (Ok u) = refl
set_back_lem (Err S.R3) = refl
set_back_lem (Err (S.R2 row)) = refl

pub set-one : (a b : Result (Unit {0}) SetError) → says_set a ≡ says_set b → a ≡ b
set-one = back_one says_set set_back set_back_lem

pub reset_back : Answer (Unit {0}) → Result (Unit {0}) ResetError
reset_back (done u) = Ok tt
reset_back (refused n vs) = Err C.R3
reset_back (fault n vs) = Err C.R3

pub reset-back : (a : Result (Unit {0}) ResetError) → reset_back (says_reset a) ≡ a
unfolding reset_back
reset-back (Ok u) = refl
reset-back (Err C.R3) = refl

pub reset-one : (a b : Result (Unit {0}) ResetError) → says_reset a ≡ says_reset b → a ≡ b
reset-one = back_one says_reset reset_back reset-back

-- ---- two results that both meet a call's contract are equal

pub settings-determined : (c : Controller) (set : Settings) (a b : Configured) → Sets c set a → Sets c set b → a ≡ b
settings-determined c set a b p q =
    ap₂ {C = Configured} (λ (d : Controller) (x : Result (Unit {0}) SetError). record { next = d; answer = x })
    (same p.next q.next) (set-one a.answer b.answer (same p.says q.says))

pub reset-determined : (c : Controller) (a b : Cleared) → Resets c a → Resets c b → a ≡ b
reset-determined c a b p q =
    ap₂ {C = Cleared} (λ (d : Controller) (x : Result (Unit {0}) ResetError). record { next = d; answer = x })
    (same p.next q.next) (reset-one a.answer b.answer (same p.says q.says))

pub counters-determined : (c : Controller) (a b : Counters) → Counted c a → Counted c b → a ≡ b
counters-determined c a b p q = same p q

pub link-determined : (c : Controller) (on : Bool) (a b : Controller) → Links c on a → Links c on b → a ≡ b
link-determined c on a b p q = same p.is q.is
