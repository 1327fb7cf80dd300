use mathlib.Core.Path.{ap, sym, ◌∙◌}
use Rattle.field.specs.Says.{says_written}
use Rattle.field.proofs.Answers.{echo-read, echo-err}
use Rattle.field.proofs.echo.Goals as goal

pub returns-in_err-write : goal.returns-in_err-write
returns-in_err-write c = echo-err c.args.weight _ _ c.in_err-write.ensures c.from_residual.ensures.0

pub returns : goal.returns
returns c = c.read.ensures ∙ echo-read c.args.weight _ (sym c.write.ensures ∙ ap says_written c.in_ok-write.was)
