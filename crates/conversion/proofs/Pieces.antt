-- What one byte becomes, by the test that is made. Assumes nothing.
use mathlib.Core.Path.{◌≡◌, refl, sym, ap, subst}
use mathlib.Core.Bool.{true, false, ◌&&◌}
use mathlib.Core.List.{List, [], ◌∷◌}
use Prim.Native.Nat.{ℕ, ◌+◌, ◌≤◌, ◌<◌}
use native.Mathlib.Omega.{arith}
use lib.Dec.{eqb, leb}
use lib.ListN.{length}
use borrow.Author.Tests.{le-leb, lt-leb}
use Rattle.laws.specs.Pick.{pick-t, pick-f}
use Rattle.text.specs.Scan.{LF, TAB}
use Rattle.text.specs.Put.{Puts}
use Rattle.text.specs.PutLaws.{room-is, fit-puts}
use Rattle.journal.specs.declared.Form.{Form}
use Rattle.journal.specs.declared.Form.TheVariants.{Old, New}
use Rattle.conversion.specs.Bytes.{tabs_after, new_piece, old_piece, piece_of}

pub new-ends : (t b : ℕ) → (eqb b LF && eqb t 4) ≡ true → new_piece t b ≡ TAB ∷ 48 ∷ LF ∷ []
unfolding new_piece
new-ends t b e = pick-t _ _ _ e

pub new-goes : (t b : ℕ) → (eqb b LF && eqb t 4) ≡ false → new_piece t b ≡ b ∷ []
unfolding new_piece
new-goes t b e = pick-f _ _ _ e

pub old-kept : (t b r : ℕ) → r ≡ tabs_after t b → r ≤ 4 → old_piece t b ≡ b ∷ []
unfolding old_piece
old-kept t b r e h = pick-t (leb (tabs_after t b) 4) (b ∷ []) [] (le-leb (tabs_after t b) 4 (omega arith))

pub old-gone : (t b r : ℕ) → r ≡ tabs_after t b → 4 < r → old_piece t b ≡ []
unfolding old_piece
old-gone t b r e h = pick-f (leb (tabs_after t b) 4) (b ∷ []) [] (lt-leb (tabs_after t b) 4 (omega arith))

pub piece-old : (f : Form) (t b : ℕ) → f ≡ Old → piece_of f t b ≡ old_piece t b
unfolding piece_of
piece-old f t b e = ap (λ (g : Form). piece_of g t b) e

pub piece-new : (f : Form) (t b : ℕ) → f ≡ New → piece_of f t b ≡ new_piece t b
unfolding piece_of
piece-new f t b e = ap (λ (g : Form). piece_of g t b) e

-- the same text put, and its room
pub puts-as : {xs ys : List ℕ} {old new : List ℕ} {at r : ℕ} → xs ≡ ys → Puts old at ys new r → Puts old at xs new r
puts-as {old = old} {new = new} {at = at} {r = r} e p = subst (λ (x : List ℕ). Puts old at x new r) (sym e) p

pub room_as : {xs ys : List ℕ} (at size : ℕ) → xs ≡ ys → at + length xs ≤ size → at + length ys ≤ size
room_as at size e h = omega (arith, ap length e)

-- nothing put
pub puts-nothing : (old : List ℕ) (at : ℕ) → at + length {A = ℕ} [] ≤ length old → Puts old at [] old at
puts-nothing old at h = fit-puts (room-is old at [] h) refl (omega arith)
