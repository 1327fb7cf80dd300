use mathlib.Core.Path.{refl}
use mathlib.Core.List.{[]}
use Rattle.laws.specs.Pick.{pick, pick-t}
use Rattle.laws.specs.Over.{over}
use Rattle.paper.specs.AnswerLaws.{fills-done}
use Rattle.modbus.specs.Replies.{served_of}
use Rattle.modbus.proofs.replies.serve.Goals as goal

pub returns-in-Ours : goal.returns-in-Ours
unfolding served_of pick
returns-in-Ours c = rw c.in-Ours.is c.reply.ensures

-- nothing is written for what all were asked
pub returns-in-ForAll : goal.returns-in-ForAll
unfolding served_of over
returns-in-ForAll c = fills-done {bytes = []} (rw c.in-ForAll.is (pick-t _ _ _ refl)) refl refl
