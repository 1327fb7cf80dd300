-- What the check's answer says, in the paper's words. Assumes nothing.
use Rattle.std.specs.Prelude.{◌≡◌, refl, [], ◌∷◌, Result, Ok, Err}
use Rattle.paper.specs.Answer.{Answer, done, refused, same}
use Rattle.paper.specs.Numbers.{R2}
use Rattle.settings.specs.Table.{first_bad, default_set}
use Rattle.settings.specs.declared.Settings.{Settings}
use Rattle.settings.specs.declared.SettingError.{SettingError}
use Rattle.settings.specs.declared.SettingError.TheVariants as E

abbrev pub says : Result (Unit {0}) SettingError → Answer (Unit {0})
says (Ok u) = done tt
says (Err (E.R2 k)) = refused R2 (k ∷ [])

-- two answers that say the same are equal
pub says-one : (a b : Result (Unit {0}) SettingError) → says a ≡ says b → a ≡ b
says-one (Ok u) (Ok v) e = refl
says-one (Ok u) (Err (E.R2 k)) e = cc
says-one (Err (E.R2 k)) (Ok u) e = cc
says-one (Err (E.R2 k)) (Err (E.R2 l)) e = cc

-- what each call's result has to meet
abbrev pub Checks : Settings → Result (Unit {0}) SettingError → Type 0
Checks s r = says r ≡ first_bad s

abbrev pub IsDefault : Settings → Type 0
IsDefault r = r ≡ default_set

-- two results that both meet a call's contract are equal
pub check-determined : (s : Settings) (a b : Result (Unit {0}) SettingError) → Checks s a → Checks s b → a ≡ b
check-determined s a b p q = says-one a b (same p q)

pub default-determined : (a b : Settings) → IsDefault a → IsDefault b → a ≡ b
default-determined a b p q = same p q
