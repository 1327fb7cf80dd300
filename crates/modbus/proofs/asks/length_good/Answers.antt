use mathlib.Core.Path.{sym}
use Rattle.laws.specs.Pick.{pick-t, pick-f}
use Rattle.modbus.specs.Asks.{length_good, function_of}
use Rattle.modbus.proofs.asks.length_good.Goals as goal

pub returns-then-function : goal.returns-then-function
unfolding length_good function_of
returns-then-function c = sym (pick-t _ _ _ (rw c.byte_at-function.ensures at c.if-function.true))

pub returns : goal.returns
unfolding length_good function_of
returns c = sym (pick-f _ _ _ (rw c.byte_at-function.ensures at c.if-function.false))
