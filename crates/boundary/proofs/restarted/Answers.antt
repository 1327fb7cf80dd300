use Rattle.std.proofs.lemmas.Result.{IfOk-at_ok}
use Rattle.controller.specs.Sound.{Sound}
use Rattle.boundary.proofs.Laws.{restarted-ok}
use Rattle.boundary.proofs.restarted.Goals as goal

pub unwrap-requires : goal.unwrap-requires
unwrap-requires c = restarted-ok _ _ c.al1.ensures c.restart.ensures

pub returns : goal.returns
returns c = IfOk-at_ok Sound c.unwrap.ensures c.restart.ensures.sound
