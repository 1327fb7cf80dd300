use mathlib.Core.Path.{◌≡◌}
use mathlib.Core.Bool.{true, false}
use Rattle.laws.specs.Pick.{pick, so}
use Rattle.controller.specs.Ready.{is_ready}
use Rattle.setup.specs.Setup.{reset_of, reset_answer, after}
use Rattle.setup.proofs.Contracts.{resets}
use Rattle.setup.proofs.reset.Goals as goal

pub returns-then-not-is_ready : goal.returns-then-not-is_ready
unfolding is_ready reset_of reset_answer after pick
returns-then-not-is_ready c =
    let e : is_ready c.args.c ≡ false = so c.is_ready.ensures c.if-not-is_ready.true in
    resets c.args.c c.requires (rw e) (rw e)

pub returns : goal.returns
unfolding is_ready reset_of reset_answer after pick
returns c =
    let e : is_ready c.args.c ≡ true = so c.is_ready.ensures c.if-not-is_ready.false in
    resets c.args.c c.requires (rw e) (rw e)
