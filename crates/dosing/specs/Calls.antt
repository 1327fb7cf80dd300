-- What each call's result has to meet, and that it fits one result. Assumes nothing.
use Rattle.std.specs.Prelude.{◌≡◌, Bool}
use Rattle.paper.specs.Answer.{same}
use Rattle.settings.specs.declared.Settings.{Settings}
use Rattle.dosing.specs.Rules.{near_zero, step_of}
use Rattle.dosing.specs.declared.Units.{Units}
use Rattle.dosing.specs.declared.Phase.{Phase}
use Rattle.dosing.specs.declared.Seen.{Seen}
use Rattle.dosing.specs.declared.Moved.{Moved}

abbrev pub TellsNear : Settings → Units → Bool → Type 0
TellsNear set f r = r ≡ near_zero set f.v

abbrev pub Steps : Settings → Phase → Seen → Moved → Type 0
Steps set p t r = r ≡ step_of set p t

-- two results that both meet a call's contract are equal
pub near-zero-determined : (set : Settings) (f : Units) (a b : Bool) → TellsNear set f a → TellsNear set f b → a ≡ b
near-zero-determined set f a b p q = same p q

pub step-determined : (set : Settings) (p : Phase) (t : Seen) (a b : Moved) → Steps set p t a → Steps set p t b → a ≡ b
step-determined set p t a b h k = same h k
