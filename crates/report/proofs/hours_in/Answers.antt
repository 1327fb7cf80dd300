use mathlib.Core.Path.{sym}
use lib.Dec.{eqb}
use borrow.Author.Tests.{eq-eqb, ne_eqb}
use Rattle.laws.specs.Pick.{pick-t, pick-f}
use Rattle.report.specs.Table.{hours_in}
use Rattle.report.proofs.hours_in.Goals as goal

pub returns-then-found-eq0 : goal.returns-then-found-eq0
unfolding hours_in
returns-then-found-eq0 c = sym (pick-t (eqb c.args.found.lines 0) 0 _ (eq-eqb _ 0 c.if-found-eq0.true))

pub returns : goal.returns
unfolding hours_in
returns c = sym (pick-f (eqb c.args.found.lines 0) 0 _ (ne_eqb _ 0 c.if-found-eq0.false))
