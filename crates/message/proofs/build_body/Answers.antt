use Rattle.laws.specs.Pick.{pick-t, pick-f, so}
use mathlib.Core.Path.{sym, ap, ◌∙◌}
use Rattle.paper.specs.Answer.{told}
use Rattle.message.specs.Message.{build_of}
use Rattle.message.specs.Says.{handed}
use Rattle.message.proofs.build_body.Goals as goal

pub returns-then-not-proper : goal.returns-then-not-proper
unfolding build_of told
returns-then-not-proper c = sym (ap (told handed) (pick-f _ _ _ (so c.proper.ensures c.if-not-proper.true)))

pub returns : goal.returns
unfolding build_of
returns c = c.framable_body.ensures ∙ sym (ap (told handed) (pick-t _ _ _ (so c.proper.ensures c.if-not-proper.false)))
