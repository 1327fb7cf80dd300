-- When the controller is Ready. Assumes nothing.
use Rattle.std.specs.Prelude.{◌≡◌, Bool, false, Option, Some, None}
use Rattle.paper.specs.Answer.{same}
use Rattle.dosing.specs.declared.Phase.{Phase}
use Rattle.stepping.specs.Stepping.{at_ready}
use Rattle.controller.specs.declared.Controller.{Controller}
use Rattle.controller.specs.declared.Fault.{Fault}

-- A fault counts as not Ready
unfoldable pub ready_in : Option Fault → Phase → Bool
ready_in None p = at_ready p
ready_in (Some why) p = false

unfoldable pub is_ready : Controller → Bool
is_ready c = ready_in c.condition c.phase

-- ---- the contract of the test, and that it fits one answer

abbrev pub TellsReady : Option Fault → Phase → Bool → Type 0
TellsReady k p r = r ≡ ready_in k p

pub ready-determined : (k : Option Fault) (p : Phase) {a b : Bool} → TellsReady k p a → TellsReady k p b → a ≡ b
ready-determined k p = same
