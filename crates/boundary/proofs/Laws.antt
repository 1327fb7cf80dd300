-- The restart of the boundary table's set is not refused. Assumes nothing.
use mathlib.Core.Path.{◌≡◌, refl, ap, ◌∙◌}
use Rattle.std.specs.Prelude.{Result, Ok, IsOk}
use Rattle.std.specs.Result.{is_ok}
use Rattle.laws.specs.Pick.{pick}
use Rattle.paper.specs.Answer.{done, on_done}
use Rattle.settings.specs.declared.Settings.{Settings}
use Rattle.settings.specs.Table.{first_bad, first_from, table, in_range, least_level, most_level}
use Rattle.controller.specs.declared.Controller.{Controller}
use Rattle.controller.specs.declared.RestartError.{RestartError}
use Rattle.controller.specs.State.{restarted}
use Rattle.controller.specs.Restart.{restart_of, stored_bad}
use Rattle.controller.specs.Determined.{restart-one}
use Rattle.controller.specs.Says.{Restarts}
use Rattle.boundary.specs.Table.{al1}

al1-taken : restart_of al1 0 0 ≡ done (restarted al1 0 0)
unfolding restart_of on_done first_bad first_from table in_range least_level most_level stored_bad pick al1
al1-taken = refl

pub restarted-ok : (set : Settings) (r : Result Controller RestartError) → set ≡ al1 → Restarts set 0 0 r → IsOk r
restarted-ok set r e h = ap is_ok (restart-one r (Ok (restarted al1 0 0)) (h.says ∙ rw (e, al1-taken)))
