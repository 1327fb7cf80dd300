use Rattle.clock.specs.Clock.{with_stage}
use Rattle.clock.proofs.Writing.{refusal-writes}
use Rattle.clock.proofs.refuse.Goals as goal

pub returns : goal.returns
unfolding with_stage
returns c = refusal-writes c.args.k c.args.out.now c.args.line c.requires.0 c.requires.1
