use Rattle.std.proofs.Common.{◌≡◌, List, refl, sym, subst, rules}
use Rattle.std.specs.Prelude.{Result, Err}
use Rattle.hourly.specs.declared.Hour.{Hour}
use Rattle.hourly.specs.TallyLaws.{Found, found_of, counts-tell}
use Rattle.weekly.specs.Promises.{MakesWeek}
use Rattle.weekly.specs.declared.WeekError.{WeekError}
use Rattle.weekly.specs.declared.WeekError.TheVariants as E
use Rattle.weekly.proofs.Made.{week-made, week-refused}
use Rattle.weekly.proofs.week_of.Goals as goal
use Rattle.weekly.proofs.week_of.Goals.{In_ok-counted}

-- the journal is accepted
found : (c : In_ok-counted) → Found c.args.bytes.now c.in_ok-counted.counted.found
found c = found_of c.args.bytes.now c.in_ok-counted.counted.found (sym c.in_ok-counted.ensures.judged)

pub returns-in_err-counted : goal.returns-in_err-counted
returns-in_err-counted c =
    let a = c.args in
    let e : c.from_residual.result ≡ Err (E.Refused c.in_err-counted.field-0.0) = search rules in
    subst (λ (r : Result (List (List Hour)) WeekError). MakesWeek a.bytes.now a.first r) (sym e) (week-refused _ _ _ c.in_err-counted.ensures.judged)

pub returns : goal.returns
returns c = let f = found (goal.at.returns c).In_ok-counted in week-made f (counts-tell f c.in_ok-counted.ensures refl) _ _ c.week_in.ensures
