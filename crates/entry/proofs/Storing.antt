-- One store after another. Assumes nothing.
use mathlib.Core.Path.{◌≡◌, refl, sym, ap, ◌∙◌, subst}
use mathlib.Core.List.{List, [], ◌∷◌, ◌++◌}
use Prim.Native.Nat.{ℕ, ◌+◌, ◌≤◌}
use native.Mathlib.Omega.{arith}
use lib.ListN.{length, length-append}
use lib.Seq.{sets, length-sets}
use Rattle.laws.specs.Over.{sets-append}
use Rattle.laws.specs.Decimal.{decimal}
use Rattle.text.specs.Scan.{TAB, LF}
use Rattle.text.specs.Put.{Puts}
use Rattle.text.specs.PutLaws.{room-is, puts-fit}
use Rattle.journal.specs.Line.{letter_d, dose_fields, fields_text, text_of}
use Rattle.journal.specs.LineLaws.{product_text}
use Rattle.journal.specs.declared.Form.{Form}
use Rattle.journal.specs.declared.Form.TheVariants.{Old, New}
use Rattle.journal.specs.declared.Line.TheVariants.{Dose, On}
use Rattle.entry.specs.Store.{Stores}

pub stores-then : {old mid new xs ys : List ℕ} {at r q : ℕ} → Stores old at xs mid r → Stores mid r ys new q → Stores old at (xs ++ ys) new q
stores-then {old} {mid} {new} {xs} {ys} {at} {r} {q} a b = record {
  left = b.left ∙ ap (λ (l : List ℕ). sets l r ys) a.left ∙ ap (λ (i : ℕ). sets (sets old at xs) i ys) a.next ∙ sym (sets-append old at xs ys);
  next = omega (arith, a.next, b.next, length-append xs ys);
}

pub stores-length : {old text new : List ℕ} {at r : ℕ} → Stores old at text new r → length new ≡ length old
stores-length {old} {text} {new} {at} {r} a = ap length a.left ∙ length-sets old at text

-- n bytes more have room behind a text, where a buffer holds the whole
pub room_for : {old text new : List ℕ} {r : ℕ} (n whole : ℕ) → Stores old 0 text new r → length text + n ≤ whole → whole ≤ length old → r + n ≤ length new
room_for n whole a h k = omega (arith, a.next, stores-length a)

-- what has room is stored
pub stored : {old text new : List ℕ} {at r : ℕ} → at + length text ≤ length old → Puts old at text new r → Stores old at text new r
stored {old} {text} {new} {at} {r} h p = let f = puts-fit (room-is old at text h) p in record { left = f.0; next = f.1 }

-- the same text
pub stores_as : {old xs ys new : List ℕ} {at r : ℕ} → xs ≡ ys → Stores old at xs new r → Stores old at ys new r
stores_as {old} {xs} {ys} {new} {at} {r} e s = subst (λ (t : List ℕ). Stores old at t new r) e s

-- ---- the text of a dose

pub dose-text : (f : Form) (h c a s p : ℕ) → text_of f (Dose h c a s p) ≡ letter_d ∷ TAB ∷ (decimal h ++ TAB ∷ (decimal c ++ TAB ∷ (decimal a ++ TAB ∷ (decimal s ++ (product_text f p ++ LF ∷ [])))))
unfolding text_of dose_fields fields_text product_text
dose-text Old h c a s p = refl
dose-text New h c a s p = refl

pub on-text : (f : Form) (h : ℕ) → text_of Old (On h) ≡ text_of f (On h)
unfolding text_of
on-text f h = refl
