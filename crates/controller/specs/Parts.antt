-- What the functions of a tick ask and give. Assumes nothing.
use Rattle.std.specs.Prelude.{◌≡◌, false, ◌≤◌, nat_abs, None}
use Rattle.dosing.specs.declared.Units.{Units}
use Rattle.scale.specs.Scale.{outside}
use Rattle.controller.specs.Tick.{Result, Told}
use Rattle.controller.specs.Sound.{Sound}
use Rattle.controller.specs.Says.{says_tick}
use Rattle.controller.specs.declared.Controller.{Controller}
use Rattle.controller.specs.declared.Ticked.{Ticked}

-- the next controller and the answer are the rule's
pub record Gives (rule : Result Told) (r : Ticked) : Type 0 where
  pub next : r.next ≡ rule.next
  pub says : says_tick r.answer ≡ rule.answer

-- F and Z are so small that w is an i32
pub record Small (f z : Units) : Type 0 where
  pub mean : nat_abs f.v ≤ 900000
  pub zero : nat_abs z.v ≤ 24998

-- the controller is sound and in no fault, and the sample is not outside
pub record Takes (c : Controller) (x : Units) : Type 0 where
  pub sound : Sound c
  pub clear : c.condition ≡ None
  pub inside : outside x.v ≡ false
