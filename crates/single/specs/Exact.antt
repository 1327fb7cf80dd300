-- Each weight is exactly the whole number as an f32 and comes back from its two words; 0 is all bits 0. Assumes nothing.
use Rattle.std.specs.Prelude.{◌≡◌, refl, Bool, true, false, not, ℕ, suc, ◌^◌, ◌<◌, T, ℤ, pos, negsuc, nat_abs, Float, Some, None}
use Rattle.std.proofs.Common.{sym, ap, ◌∙◌, div-add-mod', arith, le→leb, lt→ltb, le-leb}
use Rattle.std.specs.Float.{nan, inf, fin, binary32}
use Rattle.std.specs.Float.Ieee.{of_int, to_bits, of_bits, to_signed, in_float, in_signed, is_nan}
use Rattle.std.specs.Float.Ieee.Fits.{of_int-fits}
use Rattle.std.specs.Float.Ieee.Bits.{of_bits-to_bits, to_bits-lt}
use Rattle.std.specs.Float.Ieee.Exact.{HasValue}
use Rattle.std.specs.Float.Ieee.Back.{round_whole, positive_back, negative_back}
use Rattle.std.proofs.lemmas.Bool.{lt-leb}
use Rattle.laws.specs.Pick.{pick-t, pick-f}
use Rattle.single.specs.Single.{most, InRange, single_of, bits_of, words_of, registers_of, weight_in}

-- the sign of a whole number: true where it is below 0
abbrev pub is_neg : ℤ → Bool
is_neg (pos n) = false
is_neg (negsuc n) = true

-- the cast is defined
pub in-float : (w : ℤ) → InRange w → T (in_float binary32 w)
unfolding in_float
in-float (pos n) h = le→leb n (2 ^ 24) (omega arith)
in-float (negsuc n) h = lt→ltb n (2 ^ 24) (omega arith)

-- the single has the weight's sign and its magnitude: nothing is rounded
pub single-exact : (w : ℤ) → InRange w → HasValue (single_of w) (is_neg w) (nat_abs w) 1
unfolding single_of of_int
single-exact (pos n) h = round_whole binary32 false n (omega arith)
single-exact (negsuc n) h = round_whole binary32 true (suc n) (omega arith)

-- as a whole number it is the weight again
pub single-back : (w : ℤ) → InRange w → T (in_signed binary32 31 (single_of w)) × (to_signed 31 (single_of w) ≡ w)
unfolding single_of
single-back (pos n) h = positive_back binary32 31 n (in-float (pos n) h) (omega arith)
single-back (negsuc n) h = negative_back binary32 31 n (in-float (negsuc n) h) (omega arith)

-- what has a value is no NaN
value-no-nan : (x : Float) (s : Bool) (n d : ℕ) → HasValue x s n d → T (not (is_nan x))
unfolding is_nan
value-no-nan (fin t m e) s n d v = tt
value-no-nan nan s n d v = elim v [ ]
value-no-nan (inf t) s n d v = elim v [ ]

pub single-no-nan : (w : ℤ) → InRange w → T (not (is_nan (single_of w)))
single-no-nan w h = value-no-nan (single_of w) (is_neg w) (nat_abs w) 1 (single-exact w h)

-- the bits are 32
pub bits_fit : (w : ℤ) → bits_of w < 2 ^ 32
unfolding bits_of single_of
bits_fit w = to_bits-lt binary32 (of_int binary32 w) (of_int-fits binary32 w)

-- the bits are those of the single
pub bits_back : (w : ℤ) → of_bits binary32 (bits_of w) ≡ single_of w
unfolding bits_of single_of
bits_back w = of_bits-to_bits binary32 (of_int binary32 w) (of_int-fits binary32 w)

-- Each weight must be exactly the whole number as an f32: read back as a whole number, it is the weight
pub words_back : (w : ℤ) → InRange w → weight_in (words_of w) ≡ w
unfolding weight_in words_of
words_back w h = ap (λ (b : ℕ). to_signed 31 (of_bits binary32 b)) (div-add-mod' (bits_of w) 65536) ∙ ap (to_signed 31) (bits_back w) ∙ (single-back w h).1

-- so no two weights have the same words
pub words-one : (v w : ℤ) → InRange v → InRange w → words_of v ≡ words_of w → v ≡ w
words-one v w a b e = sym (words_back v a) ∙ ap weight_in e ∙ words_back w b

-- Weight 0 is the f32 +0, all bits 0
pub zero-plus : (single_of (pos 0) ≡ fin false 0 (pos 0)) × (words_of (pos 0) ≡ record { high = 0; low = 0 })
unfolding single_of of_int words_of bits_of to_bits
zero-plus = (refl, refl)

-- the ends of the range and the two weights next to 0, as a reader sees them in hexadecimal
pub examples :
    (words_of (pos 924998) ≡ record { high = 0x4961; low = 0xD460 })
    × (words_of (negsuc 924997) ≡ record { high = 0xC961; low = 0xD460 })
    × (words_of (pos 1) ≡ record { high = 0x3F80; low = 0 })
    × (words_of (negsuc 0) ≡ record { high = 0xBF80; low = 0 })
unfolding single_of of_int words_of bits_of to_bits
examples = (refl, refl, refl, refl)

-- ---- what the call answers

pub inside : (w : ℤ) → InRange w → registers_of w ≡ Some (words_of w)
unfolding registers_of
inside w h = pick-t _ _ _ (le-leb (nat_abs w) most h)

pub outside : (w : ℤ) → most < nat_abs w → registers_of w ≡ None
unfolding registers_of
outside w h = pick-f _ _ _ (lt-leb (nat_abs w) most h)

-- no weight within the range is answered as outside
pub never-outside : {Q : Type 0} (w : ℤ) → InRange w → None ≡ registers_of w → Q
never-outside w h e =
    let o : None ≡ Some (words_of w) = e ∙ inside w h in
    let z : ◌≡◌ {A = ℕ} 0 1 = cc in
    let f : ⊥ = omega arith in
    absurd f

-- a control: past 2 ^ 24 two whole numbers share a single, so the laws do need a range
pub past-range : (single_of (pos 16777216) ≡ fin false 1 (pos 24)) × (single_of (pos 16777217) ≡ fin false 1 (pos 24))
unfolding single_of of_int
past-range = (refl, refl)
