use mathlib.Core.Path.{sym, ap, ◌∙◌}
use Rattle.std.specs.Prelude.{Result}
use Rattle.acts.specs.declared.Answer.{Answer}
use Rattle.acts.specs.declared.Answer.TheVariants as A
use Rattle.acts.specs.Makes.{says_act}
use Rattle.clock.specs.Keeps.{restarted, lost, other}
use Rattle.controller.specs.declared.RestartError.{RestartError}
use Rattle.recorder.specs.Recording.{heard_restart, heard_said}
use Rattle.recorder.proofs.Listening.{refused-heard, other-answer}
use Rattle.recorder.proofs.by_answer.Goals as goal

pub returns-in-Ok : goal.returns-in-Ok
unfolding heard_restart heard_said says_act
returns-in-Ok c = record {
  is = sym (ap (λ (a : Answer). heard_said (says_act a)) c.in-Restart.is ∙ ap (λ (a : Result (Unit {0}) RestartError). heard_said (says_act (A.Restart a))) c.in-Ok.is);
  uncounted = restarted;
}

pub returns-in-Err : goal.returns-in-Err
unfolding heard_said says_act
returns-in-Err c = record {
  is = refused-heard c.in-Err.field-0
      ∙ sym (ap (λ (x : Answer). heard_said (says_act x)) c.in-Restart.is ∙ ap (λ (a : Result (Unit {0}) RestartError). heard_said (says_act (A.Restart a))) c.in-Err.is);
  uncounted = other;
}

pub returns-in-Unknown : goal.returns-in-Unknown
unfolding heard_said says_act
returns-in-Unknown c = record { is = sym (ap (λ (a : Answer). heard_said (says_act a)) c.in-Unknown.is); uncounted = lost }

pub returns-in_default : goal.returns-in_default
returns-in_default c = record { is = other-answer c.args.answer c.in_default.not-Restart c.in_default.not-Unknown; uncounted = other }
