use Rattle.controller.proofs.Steps.{steps-7-8}
use Rattle.controller.proofs.tick.steps7and8.Goals as goal

pub returns : goal.returns
returns c = steps-7-8 c.args.c c.args.start c.requires c.step-to.ensures c.answer_of.ensures
