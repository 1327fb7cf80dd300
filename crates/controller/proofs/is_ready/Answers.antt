use Rattle.controller.proofs.Defaults.{ready-so}
use Rattle.controller.proofs.is_ready.Goals as goal

pub returns : goal.returns
returns c = ready-so c.args.condition c.args.phase c.is_none.result c.is_none.ensures c.at_ready.ensures
