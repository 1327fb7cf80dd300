-- Each way to answer is the first reason that holds.
use mathlib.Core.Path.{◌∙◌}
use Rattle.laws.specs.Pick.{so}
use Rattle.reasons.specs.Reasons.{unused_at, unstarted_at}
use Rattle.reasons.proofs.Laws.{by-open, by-fault, by-unused, by-unstarted, by-phase}
use Rattle.reasons.proofs.gate_reason.Goals as goal

pub returns-then-is_open : goal.returns-then-is_open
returns-then-is_open c = (by-open _ _ _ _ _ _ _ (so c.is_open.ensures c.if-is_open.true))

pub returns-in-Some : goal.returns-in-Some
returns-in-Some c =
    c.fault_reason.ensures
    ∙ (by-fault _ _ _ _ _ _ (so c.is_open.ensures c.if-is_open.false) c.in-Some.is)

pub returns-then-set-output : goal.returns-then-set-output
unfolding unused_at
returns-then-set-output c =
    (by-unused _ _ _ _ _ _ (so c.is_open.ensures c.if-is_open.false) c.in_default.is c.if-set-output.true)

pub returns-then-unstarted-set : goal.returns-then-unstarted-set
unfolding unused_at unstarted_at
returns-then-unstarted-set c =
    (by-unstarted _ _ _ _ _ _ (so c.is_open.ensures c.if-is_open.false) c.in_default.is c.if-set-output.false c.if-unstarted-set.true)

pub returns : goal.returns
unfolding unused_at unstarted_at
returns c =
    c.phase_reason.ensures
    ∙ (by-phase _ _ _ _ _ _ (so c.is_open.ensures c.if-is_open.false) c.in_default.is c.if-set-output.false c.if-unstarted-set.false)
