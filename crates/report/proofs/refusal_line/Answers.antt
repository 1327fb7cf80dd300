use Prim.Native.Nat.{◌≤◌}
use native.Mathlib.Omega.{arith}
use borrow.Author.Rules.{rules}
use lib.ListN.{length}
use Rattle.text.specs.PutLaws.{digits-most}
use Rattle.report.specs.Report.{refusal_text, refusal-length}
use Rattle.report.proofs.Reporting.{holds-put}
use Rattle.report.proofs.refusal_line.Goals as goal

pub returns : goal.returns
returns g c =
    let a = c.args in
    let h : length (refusal_text a.number a.line) ≤ 44 = omega (arith, refusal-length a.number a.line, digits-most a.number (search rules), digits-most a.line (search rules)) in
    let put = c.put_refused-len.ensures in
    record { puts = put; holds = λ n. holds-put (refusal_text a.number a.line) _ (omega (arith, h, n)) put }
