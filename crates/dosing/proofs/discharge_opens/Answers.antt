use Rattle.dosing.specs.Rules.{discharge_opens}
use Rattle.dosing.proofs.discharge_opens.Goals as goal

pub returns : goal.returns
unfolding discharge_opens
returns c = c.outcome.ensures
