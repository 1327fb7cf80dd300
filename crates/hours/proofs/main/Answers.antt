use mathlib.Core.Path.{◌≡◌}
use native.Mathlib.Omega.{arith}
use borrow.Author.Rules.{rules}
use lib.ListN.{length}
use Rattle.report.specs.Promises.{holds-inside}
use Rattle.hours.proofs.main.Goals as goal

pub shared_ref_as_front-write_all : goal.shared_ref_as_front-write_all
shared_ref_as_front-write_all c =
    let r = c.report-made in
    let size : length r.result.bytes ≡ 33480 = search rules in
    omega (arith, size, holds-inside _ r.result r.ensures.holds)
