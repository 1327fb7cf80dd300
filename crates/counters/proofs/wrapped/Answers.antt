use Prim.Native.Nat.{◌+◌, ◌<◌}
use native.Mathlib.Omega.{arith}
use native.Mathlib.Nat.{mod-lt}
use Rattle.counters.proofs.wrapped.Goals as goal

pub overflow_cast-result : goal.overflow_cast-result
overflow_cast-result c =
    let h : 0 < c.args.most + 1 = omega arith in
    omega (arith, mod-lt (c.args.n + c.args.more) h)
