use Rattle.std.proofs.Common.{rules}
use Rattle.scale.specs.Scale.{stable_of}
use Rattle.scale.proofs.stable_of.Goals as goal

pub returns : goal.returns
unfolding stable_of
returns c = search rules
