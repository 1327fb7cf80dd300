-- A magnitude rounded and then given its sign is `round_away`. Assumes nothing.
use mathlib.Core.Path.{◌≡◌, refl}
use mathlib.Core.Bool.{true, false}
use Prim.Native.Nat.{ℕ, suc, ◌+◌, ◌*◌, ◌^◌, ◌≤◌, ◌<◌}
use native.Mathlib.Omega.{arith}
use native.Mathlib.Nat.{div-le_self}
use lib.IntN.{ℤ, pos, negsuc, ◌-ℤ◌, neg_ℤ, nat_abs, +ℤ_idl}
use lib.Signed.{lt_z}
use borrow.Author.Tests.{ltb-true}
use Rattle.laws.specs.Whole.{true-false}
use Rattle.window.specs.Mean.{half_up, round_away}

-- its rounded magnitude with a minus
pub round-below : (s : ℤ) (n : ℕ) → lt_z s (pos 0) ≡ true → pos 0 -ℤ pos (half_up (nat_abs s) n) ≡ round_away s n
unfolding round_away
round-below (pos m) n t = let f : m < 0 = ltb-true m 0 t in absurd (omega arith)
round-below (negsuc m) n t = +ℤ_idl (neg_ℤ (pos (half_up (suc m) n)))

-- the rounded magnitude of a number from 0 on
pub round-from : (s : ℤ) (n : ℕ) → lt_z s (pos 0) ≡ false → pos (half_up (nat_abs s) n) ≡ round_away s n
unfolding round_away
round-from (pos m) n t = refl
round-from (negsuc m) n t = true-false t

-- a rounded magnitude is an i64
pub half-small : (m n : ℕ) → n ≤ 128 → m ≤ 130 * 2147483648 → half_up m n < 2 ^ 63
unfolding half_up
half-small m n h k = omega (arith, div-le_self (2 * m + n) (2 * n))
