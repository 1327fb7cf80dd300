use native.Mathlib.Omega.{arith}
use Rattle.laws.specs.DecimalLaws.{decimal-length}
use Rattle.entry.proofs.field_len.Goals as goal

pub overflow_add-result : goal.overflow_add-result
overflow_add-result c = let l = decimal-length 10 c.args.v (omega arith) (omega arith) in omega arith

pub returns : goal.returns
returns c = let l = decimal-length 10 c.args.v (omega arith) (omega arith) in record { is = omega arith; most = omega arith }
