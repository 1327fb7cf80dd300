use Rattle.std.proofs.Common.{◌≡◌, rules, sym, subst, ℕ}
use Rattle.std.specs.Prelude.{Result, Err}
use Rattle.sheet.specs.Promises.{PrintsSheet}
use Rattle.sheet.specs.declared.PrintError.{PrintError}
use Rattle.sheet.specs.declared.PrintError.TheVariants as P
use Rattle.sheet.proofs.Printing.{made-fills, refused-fills}
use Rattle.sheet.proofs.print.Goals as goal

pub returns-in_err-days : goal.returns-in_err-days
returns-in_err-days c =
    let a = c.args in
    let e : c.from_residual.result ≡ Err (P.Week c.in_err-days.field-0.0) = search rules in
    subst (λ (r : Result ℕ PrintError). PrintsSheet a.bytes.now a.first r a.out.now a.out.now) (sym e) (refused-fills a.bytes.now a.first _ c.in_err-days.ensures a.out.now)

pub returns : goal.returns
returns c = let a = c.args in made-fills a.bytes.now a.first _ c.in_ok-days.ensures c.print_days.ensures
