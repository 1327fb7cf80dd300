use mathlib.Core.Path.{◌≡◌}
use Prim.Native.Nat.{ℕ, ◌^◌, ◌<◌}
use native.Mathlib.Omega.{arith}
use lib.IntN.{pos, ◌-ℤ◌, +ℤ_idl}
use mir.Syntax.{w32}
use mir.Val.{to_z, SFits}
use mir.Facts.{to_z-of_z, to_z_pos}
use Rattle.laws.specs.Whole.{fits32, abs-sub}
use Rattle.field.specs.Field.{signed}
use Rattle.field.proofs.with_sign.Goals as goal

as-size : (n : ℕ) → n < 2 ^ 24 → to_z w32 n ≡ pos n
as-size n h = to_z_pos w32 (omega arith)

less : (n : ℕ) → n < 2 ^ 24 → SFits w32 (pos 0 -ℤ pos n)
less n h = fits32 (pos 0 -ℤ pos n) (omega (arith, abs-sub (pos 0) (pos n)))

pub returns-then-minus : goal.returns-then-minus
unfolding signed
returns-then-minus c =
    let n = c.args.size in
    rw (c.if-minus.true, as-size n c.requires, to_z-of_z (less n c.requires)) (+ℤ_idl _)

pub returns-else-minus : goal.returns-else-minus
unfolding signed
returns-else-minus c = rw (c.if-minus.false, as-size c.args.size c.requires)
