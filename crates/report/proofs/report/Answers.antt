use mathlib.Core.Path.{◌≡◌, subst}
use mathlib.Core.List.{List}
use Prim.Native.Nat.{ℕ}
use native.Mathlib.Omega.{arith}
use borrow.Author.Rules.{rules}
use lib.ListN.{length, take}
use Rattle.report.specs.Promises.{Holds, PrintsHours}
use Rattle.report.specs.declared.PrintError.{PrintError}
use Rattle.hourly.specs.declared.Products.{Products}
use Rattle.std.specs.Prelude.{Err}
use Rattle.report.specs.Report.{seen-is}
use Rattle.report.proofs.Reporting.{text-holds, never-short, refused-line, reports}
use Rattle.report.proofs.report.Goals as goal

-- why no text was made
failed : (w : Products) (s old new : List ℕ) {d e : PrintError} → d ≡ e → PrintsHours w s (Err d) old new → PrintsHours w s (Err e) old new
failed w s old new h p = subst (λ (x : PrintError). PrintsHours w s (Err x) old new) h p

pub returns-in-Ok : goal.returns-in-Ok
returns-in-Ok c =
    let a = c.args in
    let bytes = a.bytes.now in
    let size : length bytes ≡ 65537 = search rules in
    let k = c.min-size in
    reports a.products bytes (take k.result bytes) a.n _ size (seen-is bytes a.n k.result size k.ensures)
    (text-holds a.products (take k.result bytes) c.print.new.out c.in-Ok.len c.in-Ok.ensures)

pub returns-in-Err-Refused : goal.returns-in-Err-Refused
returns-in-Err-Refused c =
    let a = c.args in
    let bytes = a.bytes.now in
    let size : length bytes ≡ 65537 = search rules in
    let k = c.min-size in
    reports a.products bytes (take k.result bytes) a.n _ size (seen-is bytes a.n k.result size k.ensures)
    (subst (λ (l : List ℕ). Holds l c.refusal_report.result)
    (refused-line a.products (take k.result bytes) c.print.new.out c.in-Err-Refused.refusal (failed _ _ _ _ c.in-Err-Refused.field-0-is c.in-Err-Refused.ensures))
    (c.refusal_report.ensures.holds (omega arith)))

pub returns-in-Err-R8 : goal.returns-in-Err-R8
returns-in-Err-R8 c = never-short c.args.products (take c.min-size.result c.args.bytes.now) c.print.new.out (failed _ _ _ _ c.in-Err-R8.field-0-is c.in-Err-R8.ensures)
