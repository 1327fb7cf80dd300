use mathlib.Core.Path.{◌≡◌, ap, ◌∙◌, subst}
use mathlib.Core.List.{List}
use Prim.Native.Nat.{ℕ}
use native.Mathlib.Omega.{arith}
use borrow.Author.Rules.{rules}
use lib.ListN.{length, take}
use Rattle.report.specs.Report.{seen-is}
use Rattle.report.specs.Promises.{Holds}
use Rattle.chosen.specs.Choice.{no_product, chosen_report}
use Rattle.std.specs.Prelude.{None}
use Rattle.chosen.proofs.Choosing.{accepted-none, refused_none, reports}
use Rattle.chosen.proofs.without_product.Goals as goal

pub returns-in-Ok : goal.returns-in-Ok
returns-in-Ok c =
    let a = c.args in
    let bytes = a.bytes.now in
    let size : length bytes ≡ 65537 = search rules in
    let k = c.min-size in
    reports None bytes a.n c.refusal_line.result size
    (subst (λ (l : List ℕ). Holds l c.refusal_line.result)
    (accepted-none (take k.result bytes) _ c.in-Ok.ensures.judged ∙ ap (chosen_report no_product) (seen-is bytes a.n k.result size k.ensures))
    (c.refusal_line.ensures.holds (omega arith)))

pub returns-in-Err : goal.returns-in-Err
returns-in-Err c =
    let a = c.args in
    let bytes = a.bytes.now in
    let size : length bytes ≡ 65537 = search rules in
    let k = c.min-size in
    reports None bytes a.n c.refusal_report.result size
    (subst (λ (l : List ℕ). Holds l c.refusal_report.result)
    (refused_none (take k.result bytes) _ c.in-Err.ensures.judged ∙ ap (chosen_report no_product) (seen-is bytes a.n k.result size k.ensures))
    (c.refusal_report.ensures.holds (omega arith)))
