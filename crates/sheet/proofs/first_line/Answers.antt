use Rattle.std.proofs.Common.{◌≡◌, ℕ, rules, sym, subst}
use Rattle.std.specs.Prelude.{Option, None}
use Rattle.sheet.specs.Promises.{ReadsFirst}
use Rattle.sheet.proofs.Reading.{none, more, alone}
use Rattle.sheet.proofs.first_line.Goals as goal

pub returns-in_err-hour : goal.returns-in_err-hour
returns-in_err-hour c =
    let e : c.from_residual.result ≡ None = search rules in
    subst (ReadsFirst c.args.line.now) (sym e) (none c.args.line.now _ c.number_at.ensures c.in_err-hour.was)

pub returns-then-next-line : goal.returns-then-next-line
returns-then-next-line c = more c.args.line.now _ c.number_at.ensures _ _ c.in_ok-hour.was c.if-next-line.true

pub returns : goal.returns
returns c = alone c.args.line.now _ c.number_at.ensures _ _ c.in_ok-hour.was c.if-next-line.false
