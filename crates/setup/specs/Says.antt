-- What the answers say in the paper's words, and the contract of each call. Assumes nothing.
use Rattle.std.specs.Prelude.{◌≡◌, Bool, [], ◌∷◌, Result, Ok, Err}
use Rattle.paper.specs.Answer.{Answer, done, refused}
use Rattle.paper.specs.Numbers.{R2, R3}
use Rattle.settings.specs.declared.Settings.{Settings}
use Rattle.settings.specs.declared.SettingError.{SettingError}
use Rattle.settings.specs.declared.SettingError.TheVariants as C
use Rattle.counters.specs.declared.Counters.{Counters}
use Rattle.controller.specs.Sound.{Sound}
use Rattle.controller.specs.declared.Controller.{Controller}
use Rattle.setup.specs.Setup.{settings_of, reset_of, link_of}
use Rattle.controller.specs.Made.{Made}
use Rattle.setup.specs.declared.SetError.{SetError}
use Rattle.setup.specs.declared.SetError.TheVariants as S
use Rattle.setup.specs.declared.Configured.{Configured}
use Rattle.setup.specs.declared.ResetError.{ResetError}
use Rattle.setup.specs.declared.ResetError.TheVariants as Z
use Rattle.setup.specs.declared.Cleared.{Cleared}

-- ---- the answers

abbrev pub says_set : Result (Unit {0}) SetError → Answer (Unit {0})
says_set (Ok u) = done tt
says_set (Err S.R3) = refused R3 []
says_set (Err (S.R2 row)) = refused R2 (row ∷ [])

-- the check's refusal, passed on
abbrev pub set_error : SettingError → SetError
set_error (C.R2 row) = S.R2 row

abbrev pub says_reset : Result (Unit {0}) ResetError → Answer (Unit {0})
says_reset (Ok u) = done tt
says_reset (Err Z.R3) = refused R3 []

-- ---- the contracts: the next controller and the answer are the rule's, and the next controller is sound

abbrev pub Links : Controller → Bool → Controller → Type 0
Links c on r = Made (link_of c on) r

-- A call of its own answers count and total at any time
abbrev pub Counted : Controller → Counters → Type 0
Counted c r = r ≡ c.counters

pub record Sets (c : Controller) (set : Settings) (r : Configured) : Type 0 where
  pub next : r.next ≡ (settings_of c set).next
  pub says : says_set r.answer ≡ (settings_of c set).answer
  pub sound : Sound r.next

pub record Resets (c : Controller) (r : Cleared) : Type 0 where
  pub next : r.next ≡ (reset_of c).next
  pub says : says_reset r.answer ≡ (reset_of c).answer
  pub sound : Sound r.next
