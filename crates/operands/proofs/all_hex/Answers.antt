use mathlib.Core.Path.{◌≡◌, refl, sym, ap, ◌∙◌}
use mathlib.Core.Bool.{Bool, true, ◌&&◌}
use mathlib.Core.List.{List}
use Prim.Native.Nat.{ℕ, ◌+◌, ◌*◌, ◌<◌}
use native.Mathlib.Omega.{arith}
use lib.ListN.{length, get_or}
use Rattle.laws.specs.Bools.{and_left, and_right}
use Rattle.operands.specs.Bytes.{is_hex, standing, lead-two}
use Rattle.operands.proofs.all_hex.Goals as goal

-- two digits more
more : (s : List ℕ) (at k : ℕ) (good a b : Bool) → at + 2 * k + 1 < length s → (good ≡ true → (p : ℕ) → p ≡ at + 2 * k → standing s at ≡ k + standing s p)
    → a ≡ is_hex (get_or s (at + 2 * k) 0) → b ≡ is_hex (get_or s (at + 2 * k + 1) 0) → (good && a && b) ≡ true → (p : ℕ) → p ≡ at + 2 * (k + 1) → standing s at ≡ k + 1 + standing s p
more s at k good a b h inv ea eb e p place =
    let both = and_left (good && a) b e in
    let two = lead-two s (at + 2 * k) h (sym ea ∙ and_right good a both) (sym eb ∙ and_right (good && a) b e) in
    let z : p ≡ at + 2 * k + 2 = omega arith in
    omega (arith, inv (and_left good a both) (at + 2 * k) refl, two, ap (standing s) z)

pub loop-k-preserved : goal.loop-k-preserved
loop-k-preserved c = more _ _ _ _ _ _ (omega arith) c.loop-k.invariant c.is_hex.ensures c.is_hex-in-loop-k.ensures
