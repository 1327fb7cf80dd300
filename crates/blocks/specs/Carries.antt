-- What lines make of the controller in use. The text of an answer has no definition. Assumes nothing.
use Rattle.std.specs.Prelude.{List, ℕ}
use Rattle.controller.specs.declared.Controller.{Controller}
use Rattle.lines.specs.declared.Intake.{Intake}
use Rattle.lines.specs.Intake.{Waits}
use Rattle.acts.specs.Script.{Brings}
use Rattle.blocks.specs.declared.Carried.{Carried}

-- every whole line of the input is answered, and those still to come find the controller that they would have found
pub record Carries (c : Controller) (i : Intake) (input : List ℕ) (r : Carried) : Type 0 where
  pub brings : Brings c i input r.controller r.intake
  pub waits : Waits r.intake input
