-- The contract of a call that makes a controller and cannot refuse. Assumes nothing.
use Rattle.std.specs.Prelude.{◌≡◌}
use Rattle.std.proofs.Common.{sym, subst}
use Rattle.controller.specs.Sound.{Sound}
use Rattle.controller.specs.declared.Controller.{Controller}

-- it is the rule's, and it is sound
pub record Made (rule r : Controller) : Type 0 where
  pub is : r ≡ rule
  pub sound : Sound r

pub made : {rule r : Controller} → r ≡ rule → Sound rule → Made rule r
made e s = record { is = e; sound = subst Sound (sym e) s }
