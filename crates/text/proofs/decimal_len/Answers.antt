use native.Mathlib.Omega.{arith}
use mathlib.Core.Path.{ap}
use lib.ListN.{length}
use Rattle.laws.specs.DecimalLaws.{decimal-small, decimal-more, decimal-some, decimal-length}
use Rattle.text.proofs.decimal_len.Goals as goal

pub overflow_add-k : goal.overflow_add-k
overflow_add-k c =
    let n = c.args.n in
    omega (arith, decimal-some c.loop-v.v, decimal-length 20 n (omega arith) (omega arith))

pub loop-v-smaller : goal.loop-v-smaller
loop-v-smaller c = omega (arith, c.loop-v-test.true)

pub loop-v-preserved : goal.loop-v-preserved
loop-v-preserved c = omega (arith, decimal-more c.loop-v.v c.loop-v-test.true)

pub returns : goal.returns
returns c = omega (arith, ap length (decimal-small c.loop-v.v c.loop-v-test.false))
