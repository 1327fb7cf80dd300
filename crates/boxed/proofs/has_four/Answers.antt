use Prim.Native.Nat.{◌-◌}
use native.Mathlib.Omega.{arith}
use borrow.Author.Tests.{leb-true}
use Rattle.boxed.proofs.has_four.Goals as goal

pub returns : goal.returns
returns c e = let a = c.args in omega (arith, leb-true 4 (a.len - a.at) e, c.if-len-at.false)
