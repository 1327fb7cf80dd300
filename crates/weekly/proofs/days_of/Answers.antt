use Rattle.std.proofs.Common.{◌≡◌, List, rules, ap, sym, ◌∙◌, subst}
use Rattle.std.specs.Prelude.{Result, Err}
use Rattle.paper.specs.Answer.{done}
use Rattle.weekly.specs.Promises.{MakesDays}
use Rattle.weekly.specs.declared.WeekError.{WeekError}
use Rattle.weekly.specs.declared.Day.{Day}
use Rattle.weekly.proofs.Made.{week-holds, days-refused}
use Rattle.weekly.proofs.days_of.Goals as goal

pub returns-in_err-week : goal.returns-in_err-week
returns-in_err-week c =
    let a = c.args in
    let e : c.from_residual.result ≡ Err c.in_err-week.field-0.0 = search rules in
    subst (λ (r : Result (List Day) WeekError). MakesDays a.bytes.now a.first r) (sym e) (days-refused _ _ _ c.in_err-week.ensures)

pub days_from-requires : goal.days_from-requires
days_from-requires c = (week-holds _ _ _ c.in_ok-week.ensures).whole

pub returns : goal.returns
returns c = ap (λ (ds : List Day). done ds) c.days_from.ensures ∙ (week-holds _ _ _ c.in_ok-week.ensures).days
