use mathlib.Core.Path.{refl}
use native.Mathlib.Omega.{arith}
use Rattle.calls.specs.Call.{flag_field, link_at}
use Rattle.calls.specs.Reads.{as_call, size_of, Within}
use Rattle.operands.specs.Parsing.{on-good, on-bad, num}
use Rattle.calls.proofs.Steps.{unasked, asked}
use Rattle.calls.proofs.asks.link.Goals as goal

pub returns-in_default : goal.returns-in_default
unfolding link_at flag_field
returns-in_default c = unasked (on-bad _ (on-bad _ (num c.field_at.ensures c.in_default.is)))

pub returns : goal.returns
unfolding link_at flag_field as_call size_of Within
returns c = asked c.ended.ensures (on-good _ (on-good _ (num c.field_at.ensures c.in-Some.is))) refl (omega arith) tt
