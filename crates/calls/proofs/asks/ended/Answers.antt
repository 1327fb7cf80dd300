use mathlib.Core.Path.{sym}
use borrow.Author.Tests.{le-leb, lt-leb}
use Rattle.laws.specs.Pick.{pick-t, pick-f}
use Rattle.calls.proofs.asks.ended.Goals as goal

pub returns-then-end-line : goal.returns-then-end-line
returns-then-end-line c = record { is = sym (pick-f _ _ _ (lt-leb _ _ c.if-end-line.true)) }

pub returns : goal.returns
returns c = record { is = sym (pick-t _ _ _ (le-leb _ _ c.if-end-line.false)) }
