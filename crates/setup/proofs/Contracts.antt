-- What an answer has to say for a call's contract to be met. Assumes nothing.
use mathlib.Core.Path.{◌≡◌, refl, sym, ap, subst, ◌∙◌}
use Rattle.std.specs.Prelude.{Err}
use Rattle.paper.specs.Answer.{Answer}
use Rattle.settings.specs.Says.{says}
use Rattle.settings.specs.declared.Settings.{Settings}
use Rattle.settings.specs.declared.SettingError.{SettingError}
use Rattle.settings.specs.declared.SettingError.TheVariants as S
use Rattle.setup.specs.Setup.{taken, after, settings_answer, settings_of, reset_of}
use Rattle.controller.specs.Sound.{Sound}
use Rattle.setup.specs.Keeps.{settings-sound, reset-sound}
use Rattle.setup.specs.Says.{says_set, set_error, says_reset, Sets, Resets}
use Rattle.controller.specs.declared.Controller.{Controller}
use Rattle.setup.specs.declared.Configured.{Configured}
use Rattle.setup.specs.declared.Cleared.{Cleared}

pub sets : (c : Controller) (set : Settings) {r : Configured} {a : Answer (Unit {0})} → Sound c → settings_answer c set ≡ a → r.next ≡ after a (taken set c) c → says_set r.answer ≡ a → Sets c set r
unfolding settings_of
sets c set s e n a =
    let m = n ∙ ap (λ (x : Answer (Unit {0})). after x (taken set c) c) (sym e) in
    record { next = m; says = a ∙ sym e; sound = subst Sound (sym m) (settings-sound c set s) }

-- what the check refuses is refused
pub turned_down : (c : Controller) (set : Settings) (e : SettingError) → Sound c → settings_answer c set ≡ says (Err e) → Sets c set (record { next = c; answer = Err (set_error e) })
unfolding after
turned_down c set (S.R2 row) s k = sets c set s k refl refl

pub resets : (c : Controller) {r : Cleared} → Sound c → r.next ≡ (reset_of c).next → says_reset r.answer ≡ (reset_of c).answer → Resets c r
resets c s n a = record { next = n; says = a; sound = subst Sound (sym n) (reset-sound c s) }
