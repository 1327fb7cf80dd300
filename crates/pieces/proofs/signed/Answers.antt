use native.Mathlib.Omega.{arith}
use mathlib.Core.Bool.{true, false}
use lib.IntN.{ℤ, pos, negsuc, nat_abs}
use lib.Signed.{lt_z}
use mir.Syntax.{w32}
use mir.Val.{to_z, of_z}
use mir.ValLaws.{to_z-of_z}
use borrow.Author.Tests.{ltb-true}
use Rattle.std.proofs.Common.{◌≡◌, ◌≤◌, ◌<◌, refl, sym, ap, ◌∙◌, length, ℕ, List, [], ◌∷◌, ◌++◌}
use Rattle.laws.specs.Whole.{true-false}
use Rattle.laws.specs.Decimal.{decimal}
use Rattle.text.specs.Put.{Puts}
use Rattle.text.specs.PutLaws.{room-is, fit-puts, put_then}
use Rattle.pieces.specs.Signed.{minus_of, signed_text}
use Rattle.pieces.proofs.signed.Goals as goal
use Rattle.pieces.proofs.signed.Goals.{then-v-lt0, else-v-lt0}

-- the minus, by the test of the code
minus-is : (v : ℤ) → lt_z v (pos 0) ≡ true → minus_of v ≡ 45 ∷ []
unfolding minus_of
minus-is (pos n) h = let q : n < 0 = ltb-true n 0 h in absurd (omega arith)
minus-is (negsuc n) h = refl

minus-none : (v : ℤ) → lt_z v (pos 0) ≡ false → minus_of v ≡ []
unfolding minus_of
minus-none (pos n) h = refl
minus-none (negsuc n) h = true-false h

puts-none : (old : List ℕ) (at : ℕ) → at ≤ length old → Puts old at [] old at
puts-none old at h = fit-puts (room-is old at [] (omega (arith, h))) refl (omega arith)

puts_as : {old text text' new new' : List ℕ} {at r r' : ℕ} → text ≡ text' → new ≡ new' → r ≡ r' → Puts old at text' new' r' → Puts old at text new r
puts_as e f g p = rw (e, f, g) p

pub returns : goal.returns
unfolding signed_text
returns c room =
    let a = c.args in
    let whole : to_z w32 (of_z w32 a.v) ≡ a.v = to_z-of_z w32 a.v c.ranges.v in
    put_then (9 ∷ []) (minus_of a.v ++ decimal (nat_abs a.v)) room c.put_byte-p.ensures (λ more.
    put_then {mid = c.if-v-lt0.out} {p = c.if-v-lt0.p} (minus_of a.v) (decimal (nat_abs a.v)) more
    (elim c.if-v-lt0.branch [
      | then-v-lt0 w ↦ puts_as (minus-is a.v (ap (λ (z : ℤ). lt_z z (pos 0)) (sym whole) ∙ w.if-v-lt0.true)) w.out-is w.p-is w.put_byte-p-then-v-lt0.ensures
      | else-v-lt0 w ↦ puts_as (minus-none a.v (ap (λ (z : ℤ). lt_z z (pos 0)) (sym whole) ∙ w.if-v-lt0.false)) w.out-is w.p-is (puts-none c.put_byte-p.new.out c.put_byte-p.result (omega (arith, more)))
    ])
    (λ last. puts_as (ap decimal (ap nat_abs (sym whole) ∙ sym c.unsigned_abs.ensures.value ∙ sym c.from.ensures)) refl refl c.put_decimal.ensures))
