use mathlib.Core.Path.{◌≡◌}
use native.Mathlib.Omega.{arith}
use lib.ListN.{length}
use borrow.Author.Rules.{rules}
use Rattle.acts.specs.Script.{brings-then}
use Rattle.runs.specs.Runs.{ran-pending, ran_on}
use Rattle.blocks.proofs.answer.Goals as goal

pub returns-in_default : goal.returns-in_default
returns-in_default c =
    let run = c.answer-run in
    let on = ran_on run.result c.in_default.is run.ensures in
    let room : 4096 ≡ length c.loop-call.bytes = search rules in
    record { brings = brings-then c.loop-call.invariant on.0; waits = on.1 (omega (arith, run.auto.bytes, room)) }

-- the call at which a run stopped is made
pub loop-call-preserved : goal.loop-call-preserved
loop-call-preserved c =
    let run = c.answer-run in
    let pending = ran-pending run.result c.in-Some.is run.ensures in
    brings-then c.loop-call.invariant (pending.made _ c.answer-answered.ensures)

pub loop-call-smaller : goal.loop-call-smaller
loop-call-smaller c = let run = c.answer-run in (ran-pending run.result c.in-Some.is run.ensures).less
