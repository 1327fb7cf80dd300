use mathlib.Core.Path.{refl}
use native.Mathlib.Omega.{arith}
use Rattle.calls.specs.Call.{why_at}
use Rattle.calls.specs.Reads.{as_call, size_of, Within}
use Rattle.operands.specs.Parsing.{on-good, on-bad, num, field-most}
use Rattle.calls.proofs.Steps.{unasked, asked}
use Rattle.calls.proofs.asks.why.Goals as goal

pub returns-in_default : goal.returns-in_default
unfolding why_at
returns-in_default c = unasked (on-bad _ (num c.field_at.ensures c.in_default.is))

pub overflow_cast-output : goal.overflow_cast-output
overflow_cast-output c = omega (arith, field-most _ _ (num c.field_at.ensures c.in-Some.is))

pub returns : goal.returns
unfolding why_at as_call size_of Within
returns c = asked c.ended.ensures (on-good _ (num c.field_at.ensures c.in-Some.is)) refl (omega arith) tt
