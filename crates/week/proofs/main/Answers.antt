use Rattle.std.proofs.Common.{◌≡◌, sym, length, rules, arith}
use lib.Seq.{length-take-le}
use Rattle.report.specs.Promises.{holds-inside}
use Rattle.heading.specs.Heading.{heading-inside}
use Rattle.week.proofs.main.Goals as goal

pub first_in-first-requires : goal.first_in-first-requires
first_in-first-requires c = heading-inside _ _ c.read_heading-headed.ensures

pub shared_ref_as_front-write_all : goal.shared_ref_as_front-write_all
shared_ref_as_front-write_all c =
    let r = c.report-out in
    let size : length r.result.bytes ≡ 140 = search rules in
    omega (arith, size, holds-inside _ r.result r.ensures.holds)

pub slice_bounds-write_all-end : goal.slice_bounds-write_all-end
slice_bounds-write_all-end c =
    let r = c.report-out in
    sym (length-take-le r.result.len r.result.bytes (holds-inside _ r.result r.ensures.holds))
