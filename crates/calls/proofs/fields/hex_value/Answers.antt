use mathlib.Core.Path.{◌≡◌}
use mathlib.Core.Bool.{Bool, true}
use Prim.Native.Nat.{ℕ, ◌+◌, ◌*◌, ◌/◌, ◌%◌, ◌≤◌, ◌<◌}
use native.Mathlib.Omega.{arith}
use lib.Dec.{T, leb, eqb, leb→le, eqb→eq}
use Rattle.laws.specs.Tests.{both, both_left, both_right, below, below_at}
use Rattle.laws.specs.Pick.{pick, pick-t}
use Rattle.laws.specs.Decimal.{is_digit}
use Rattle.operands.specs.Bytes.{is_hex, hex_value}
use borrow.Author.Rules.{rules}
use Rattle.calls.proofs.fields.hex_value.Goals as goal

-- a digit's value by its bits, computed at each of the 256 bytes
bits : ℕ → Bool
bits b = pick (is_hex b) (both (eqb (b % 16 + 9 * (b / 64)) (hex_value b)) (leb (hex_value b) 15)) true

bits-all : T (below bits 256)
unfolding below both bits is_hex hex_value is_digit pick
bits-all = tt

bits-value : (b : ℕ) → b < 256 → is_hex b ≡ true → (b % 16 + 9 * (b / 64) ≡ hex_value b) × (b % 16 + 9 * (b / 64) ≤ 15)
unfolding bits
bits-value b h e =
    let t = rw (pick-t _ _ _ e) at (below_at bits 256 bits-all b h) in
    let v = eqb→eq (b % 16 + 9 * (b / 64)) (hex_value b) (both_left _ _ t) in
    (v, omega (arith, v, leb→le (hex_value b) 15 (both_right _ _ t)))

pub returns : goal.returns
returns c = bits-value c.args.b (search rules) c.requires
