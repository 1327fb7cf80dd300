use Rattle.std.proofs.Common.{sym, subst, arith}
use Rattle.weekly.specs.declared.WeekError.{WeekError}
use Rattle.report.specs.Promises.{Holds}
use Rattle.sheet.specs.Says.{error_text}
use Rattle.sheet.proofs.error_report.Goals as goal

pub returns-in-Refused : goal.returns-in-Refused
unfolding error_text
returns-in-Refused c = subst (λ (e : WeekError). Holds (error_text e) c.refusal_report.result) (sym c.in-Refused.is) (c.refusal_report.ensures.holds (omega arith))

pub returns-in-R21 : goal.returns-in-R21
unfolding error_text
returns-in-R21 c = subst (λ (e : WeekError). Holds (error_text e) c.refusal_line.result) (sym c.in-R21.is) (c.refusal_line.ensures.holds (omega arith))
