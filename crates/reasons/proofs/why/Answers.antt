use mathlib.Core.Path.{sym, ap, ◌∙◌}
use native.Mathlib.Omega.{arith}
use Rattle.laws.specs.Pick.{pick-t}
use Rattle.paper.specs.Answer.{done}
use Rattle.dosing.specs.declared.Units.{Units}
use Rattle.controller.specs.Tick.{w_of}
use Rattle.reasons.specs.Reasons.{Cause, gate_by, gate_cause, no_output, why_of}
use Rattle.reasons.specs.Weights.{weight-most, comparable}
use Rattle.reasons.proofs.Laws.{at-alarm, at-gate}
use Rattle.reasons.proofs.why.Goals as goal

-- R19
pub returns-then-output : goal.returns-then-output
unfolding why_of no_output
returns-then-output c = sym (pick-t _ _ _ c.if-output.true)

pub returns-then-output-eq4 : goal.returns-then-output-eq4
unfolding no_output
returns-then-output-eq4 c =
    ap (λ (x : Cause). done x) c.alarm_reason.ensures ∙ sym (at-alarm c.args.c c.args.output c.if-output.false c.if-output-eq4.true)

pub minus-w-requires : goal.minus-w-requires
unfolding w_of
minus-w-requires c = omega (arith, weight-most c.args.c c.requires)

pub gate_reason-reason-requires : goal.gate_reason-reason-requires
unfolding w_of
gate_reason-reason-requires c = rw c.minus-w.ensures (comparable c.args.c c.requires)

pub returns : goal.returns
unfolding no_output gate_cause w_of
returns c =
    let a = c.args in
    ap (λ (x : Cause). done x) c.gate_reason-reason.ensures
    ∙ ap (λ (w : Units). done (gate_by a.c.set a.c.gates a.c.condition a.c.unstarted a.c.phase w.v a.output)) c.minus-w.ensures
    ∙ sym (at-gate a.c a.output c.if-output.false c.if-output-eq4.false)
