use mathlib.Core.Path.{refl}
use Rattle.acts.specs.Script.{made-polled}
use Rattle.answers.proofs.serve.Goals as goal

pub returns : goal.returns
returns c = made-polled refl c.poll-polled.result c.poll-polled.ensures
