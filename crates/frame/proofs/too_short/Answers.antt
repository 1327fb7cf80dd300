-- At most the fewest bytes before the check, which then has no place.
use mathlib.Core.Path.{◌≡◌, ◌∙◌, sym, ap}
use Prim.Native.Nat.{ℕ, suc, ◌≤◌, ◌<◌}
use lib.ListN.{length}
use Rattle.laws.specs.Pick.{pick-map}
use Rattle.frame.specs.Frame.{fewest, extended}
use Rattle.frame.specs.Read.{too_short}
use Rattle.frame.proofs.too_short.Goals as goal
use lib.Dec.{ltb, leb}
use native.Mathlib.Omega.{arith}
use native.Mathlib.Decide.{dec_le}
use borrow.Author.Tests.{le-leb, le-ltb, lt-leb, lt-ltb}

at-most : (n m : ℕ) → leb n m ≡ ltb n (suc m)
at-most n m =
    elim (dec_le n m) [
      | yes h ↦ le-leb n m h ∙ sym (lt-ltb n (suc m) (omega arith))
      | no h ↦ let k : m < n = omega arith in lt-leb n m k ∙ sym (le-ltb n (suc m) (omega arith))
    ]

pub returns : goal.returns
unfolding too_short fewest
returns c = rw c.fewest.ensures (at-most _ _ ∙ ap (λ (n : ℕ). ltb (length c.args.body.now) n) (pick-map suc (extended c.args.body.now) 5 2))
