use mathlib.Core.Path.{◌≡◌, refl}
use Rattle.dosing.specs.Rules.{shut}
use Rattle.controller.specs.Tick.{faulted}
use Rattle.controller.proofs.Defaults.{all-shut}
use Rattle.controller.proofs.tick.faulted.Goals as goal

pub returns : goal.returns
unfolding faulted
returns c =
    let z = c.default.ensures in
    let closed : c.default.result ≡ shut = all-shut z.0 z.1.0 z.1.1 in
    record { next = rw closed; says = refl }
