use borrow.Author.Rules.{rules}
use Rattle.chosen.proofs.Reading.{none, more, only, small}
use Rattle.chosen.proofs.product_line.Goals as goal

pub returns-in_default : goal.returns-in_default
returns-in_default c = none c.args.line.now _ c.number_at.ensures c.in_default.is

pub returns-then-next-line : goal.returns-then-next-line
returns-then-next-line c = more c.args.line.now _ c.number_at.ensures _ _ c.in-Some.is c.if-next-line.true

pub overflow_cast-result : goal.overflow_cast-result
overflow_cast-result c = search (rules, small c.args.line.now _ c.number_at.ensures _ _ c.in-Some.is)

pub returns : goal.returns
returns c = only c.args.line.now _ c.number_at.ensures _ _ c.in-Some.is c.if-next-line.false
