-- One test tells the range.
use mathlib.Core.Path.{sym, ap, ◌≡◌, ◌∙◌}
use Prim.Native.Nat.{ℕ, ◌/◌, ◌%◌}
use native.Mathlib.Omega.{arith}
use lib.IntN.{nat_abs}
use mir.Syntax.{w32}
use mir.ValLaws.{to_z-of_z}
use Rattle.std.specs.Prelude.{Option, Some}
use Rattle.single.specs.Single.{bits_of, words_of}
use Rattle.single.specs.Exact.{inside, outside}
use Rattle.single.specs.declared.Words.{Words}
use Rattle.single.proofs.words_of.Goals as goal
use Rattle.single.proofs.words_of.Goals.{After-unsigned_abs}

size : (c : After-unsigned_abs) → c.unsigned_abs.result ≡ nat_abs c.args.w
size c = c.unsigned_abs.ensures.value ∙ ap nat_abs (to_z-of_z w32 c.args.w c.ranges.w)

pub returns-then-unsigned_abs-gt-MOST : goal.returns-then-unsigned_abs-gt-MOST
returns-then-unsigned_abs-gt-MOST c = sym (outside _ (omega (arith, size (goal.at.returns-then-unsigned_abs-gt-MOST c).After-unsigned_abs)))

pub returns : goal.returns
unfolding words_of
returns c =
    let bits : c.bits_of-bits.result ≡ bits_of c.args.w = c.bits_of-bits.ensures ∙ ap bits_of (to_z-of_z w32 c.args.w c.ranges.w) in
    ap {B = Option Words} (λ (b : ℕ). Some (record { high = b / 65536; low = b % 65536 })) bits
    ∙ sym (inside _ (omega (arith, size (goal.at.returns c).After-unsigned_abs)))
