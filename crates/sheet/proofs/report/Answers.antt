use Rattle.std.proofs.Common.{◌≡◌, refl, sym, subst, List, ℕ, length, take, replicate, length-take-le, rules, arith}
use Rattle.std.specs.Prelude.{Result, Err}
use Rattle.report.specs.Report.{seen-is}
use Rattle.report.specs.Promises.{Holds}
use Rattle.sheet.specs.Promises.{PrintsSheet}
use Rattle.sheet.specs.declared.PrintError.{PrintError}
use Rattle.sheet.specs.declared.PrintError.TheVariants as P
use Rattle.sheet.proofs.Reporting.{text-holds, never-short, error-line, reports}
use Rattle.sheet.proofs.report.Goals as goal

pub slice_bounds-print-end : goal.slice_bounds-print-end
slice_bounds-print-end c =
    let bytes = c.args.bytes.now in
    let size : length bytes ≡ 65537 = search rules in
    sym (length-take-le c.min-size.result bytes (omega (arith, c.min-size.ensures)))

pub returns-in-Ok : goal.returns-in-Ok
returns-in-Ok c =
    let a = c.args in
    let bytes = a.bytes.now in
    let size : length bytes ≡ 65537 = search rules in
    let hour = c.number_in-hour in
    let k = c.min-size in
    let seen = take k.result bytes in
    reports a.first bytes seen a.n hour.result _ size (seen-is bytes a.n k.result size k.ensures) hour.ensures
    (text-holds seen hour.result (replicate 140 0) c.print.new.out refl c.in-Ok.len c.in-Ok.ensures)

pub returns-in-Err-Week : goal.returns-in-Err-Week
returns-in-Err-Week c =
    let a = c.args in
    let bytes = a.bytes.now in
    let size : length bytes ≡ 65537 = search rules in
    let hour = c.number_in-hour in
    let k = c.min-size in
    let p = c.print in
    let seen = take k.result bytes in
    let e : p.result ≡ Err (P.Week c.in-Err-Week.error) = search rules in
    reports a.first bytes seen a.n hour.result _ size (seen-is bytes a.n k.result size k.ensures) hour.ensures
    (subst (λ (l : List ℕ). Holds l c.error_report.result)
    (error-line seen hour.result (replicate 140 0) p.new.out refl c.in-Err-Week.error
    (subst (λ (x : Result ℕ PrintError). PrintsSheet seen hour.result x (replicate 140 0) p.new.out) e p.ensures))
    c.error_report.ensures)

pub returns-in-Err-R8 : goal.returns-in-Err-R8
returns-in-Err-R8 c =
    let a = c.args in
    let bytes = a.bytes.now in
    let hour = c.number_in-hour in
    let p = c.print in
    let seen = take c.min-size.result bytes in
    let e : p.result ≡ Err P.R8 = search rules in
    never-short seen hour.result (replicate 140 0) p.new.out refl
    (subst (λ (x : Result ℕ PrintError). PrintsSheet seen hour.result x (replicate 140 0) p.new.out) e p.ensures)
