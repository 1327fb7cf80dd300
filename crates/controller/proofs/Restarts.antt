-- What a restart has to answer for its contract to be met. Assumes nothing.
use mathlib.Core.Path.{◌≡◌, sym}
use Prim.Native.Nat.{ℕ}
use Rattle.std.specs.Prelude.{Ok, Err}
use Rattle.paper.specs.Answer.{done}
use Rattle.settings.specs.declared.Settings.{Settings}
use Rattle.controller.specs.Restart.{restart_of}
use Rattle.controller.specs.Keeps.{restart-sound}
use Rattle.controller.specs.Says.{says_restart, Restarts}
use Rattle.controller.specs.declared.Controller.{Controller}
use Rattle.controller.specs.declared.RestartError.{RestartError}

module _ (set : Settings) (count total : ℕ) where
  -- R2, R15
  pub not-restarted : (e : RestartError) → restart_of set count total ≡ says_restart (Err e) → Restarts set count total (Err e)
  not-restarted e k = record { says = sym k; sound = tt }

  pub restarts : {c : Controller} → restart_of set count total ≡ done c → Restarts set count total (Ok c)
  restarts k = record { says = sym k; sound = restart-sound set count total _ k }
