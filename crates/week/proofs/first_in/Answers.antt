use Rattle.std.proofs.Common.{sym, ◌∙◌, arith}
use Rattle.heading.specs.Heading.{line-inside, no-line, said-line}
use Rattle.week.proofs.first_in.Goals as goal

pub slice_bounds-first_line-count : goal.slice_bounds-first_line-count
slice_bounds-first_line-count c = let w = line-inside _ _ _ _ c.requires c.in-Line.is in omega (arith, w.0, w.1)

pub returns-in-Line : goal.returns-in-Line
returns-in-Line c = c.first_line.ensures ∙ sym (said-line _ _ _ _ _ _ c.in-Line.is)

pub returns-in-More : goal.returns-in-More
returns-in-More c = sym (no-line _ _ _ _ c.in-More.is)
