use mathlib.Core.Path.{sym}
use borrow.Author.Tests.{le-leb, lt-leb}
use Rattle.laws.specs.Pick.{pick-t, pick-f}
use Rattle.modbus.specs.Replies.{top_bit}
use Rattle.modbus.proofs.replies.top_bit.Goals as goal

pub returns-then-function-ge128 : goal.returns-then-function-ge128
unfolding top_bit
returns-then-function-ge128 c = sym (pick-t _ _ _ (le-leb _ _ c.if-function-ge128.true))

pub returns-else-function-ge128 : goal.returns-else-function-ge128
unfolding top_bit
returns-else-function-ge128 c = sym (pick-f _ _ _ (lt-leb _ _ c.if-function-ge128.false))
