use mathlib.Core.Path.{ap}
use native.Mathlib.Omega.{arith}
use borrow.Author.Tests.{ne_eqb}
use Rattle.laws.specs.Pick.{pick}
use Rattle.asking.specs.declared.Reply.TheVariants as R
use Rattle.readout.specs.Readout.{reply_for}
use Rattle.readout.proofs.reply_of.Goals as goal

pub returns-in-195 : goal.returns-in-195
unfolding reply_for pick
returns-in-195 c = rw c.in-195.is c.weight_reply.ensures

pub returns-in-194 : goal.returns-in-194
unfolding reply_for pick
returns-in-194 c = rw c.in-194.is c.weight_reply-in-194.ensures

pub returns-in-196 : goal.returns-in-196
unfolding reply_for pick
returns-in-196 c = rw c.in-196.is

pub returns-in-197 : goal.returns-in-197
unfolding reply_for pick
returns-in-197 c = rw c.in-197.is (ap R.Byte c.outputs_of.ensures)

pub returns-in_default : goal.returns-in_default
unfolding reply_for pick
returns-in_default c =
    rw (ne_eqb c.args.operation 195 (λ h. omega arith), ne_eqb c.args.operation 194 (λ h. omega arith), ne_eqb c.args.operation 196 (λ h. omega arith), ne_eqb c.args.operation 197 (λ h. omega arith))
