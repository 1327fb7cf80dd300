use mathlib.Core.Path.{◌≡◌}
use Rattle.channels.specs.Channels.{no_runs}
use Rattle.channels.proofs.Laws.{all-zero}
use Rattle.dosing.specs.Rules.{shut}
use Rattle.controller.specs.State.{restarted}
use Rattle.controller.proofs.Defaults.{all-shut}
use Rattle.controller.proofs.restart.made.Goals as goal

pub returns : goal.returns
unfolding restarted
returns c =
    let z = c.default.ensures in
    let fresh : c.default.result ≡ no_runs = all-zero z.0 z.1.0 z.1.1 in
    let y = c.default-2.ensures in
    let closed : c.default-2.result ≡ shut = all-shut y.0 y.1.0 y.1.1 in
    rw (c.new.ensures, fresh, closed)
