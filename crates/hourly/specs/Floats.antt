-- Whole numbers in binary64: a sum of two is exact, one comes back from its float, and a quotient by one above 0 is no NaN. Assumes nothing.
use Rattle.std.specs.Prelude.{◌≡◌, refl, Bool, true, false, not, cond, ℕ, zero, suc, ◌+◌, ◌*◌, ◌^◌, ◌≤◌, ◌<◌, T, ltb, Float}
use Rattle.std.proofs.Common.{sym, ap, ◌∙◌, true≢false, mul-one, mul_comm, mul_assoc, add-mul, mul-pos, zero-lt-suc, zero-mul, arith, le→leb}
use Rattle.std.proofs.Math.Dec.{eqb-suc-zero}
use Rattle.std.specs.Float.{nan, inf, fin, Format, binary64}
use Rattle.std.specs.Float.Ieee.{prec, low, emax, up, down, round, units, odd, add, sum, div, of_int, is_nan, of_bits, to_unsigned, in_unsigned, in_float}
use Rattle.std.specs.Float.Ieee.Fits.{down_pos, round_is}
use Rattle.std.specs.Float.Ieee.Exact.{HasValue}
use Rattle.std.specs.Float.Ieee.Back.{round_whole, unsigned_back}
use Rattle.std.specs.Float.Ieee.Scale.{round_same}
use Rattle.hourly.specs.Hours.{as_f64}

cross : (x y p q a b : ℕ) → x * 1 ≡ a * p → y * 1 ≡ b * q → x * q + y * p ≡ (a + b) * (p * q)
cross x y p q a b h k =
    let e : x ≡ a * p = sym (mul-one x) ∙ h in
    let g : y ≡ b * q = sym (mul-one y) ∙ k in
    ap (λ (z : ℕ). z * q + y * p) e
    ∙ ap (λ (z : ℕ). a * p * q + z * p) g
    ∙ ap (λ (z : ℕ). z + b * q * p) (mul_assoc a p q)
    ∙ ap (λ (z : ℕ). a * (p * q) + z) (mul_assoc b q p ∙ ap (λ (z : ℕ). b * z) (mul_comm q p))
    ∙ sym (add-mul a b (p * q))

-- two values that are whole numbers a and b add to the rounding of a + b
add-values : (f : Format) (x y : Float) (a b : ℕ) → HasValue x false a 1 → HasValue y false b 1 → add f x y ≡ round f false (a + b) 1
unfolding add sum
add-values f nan y a b v w = absurd v
add-values f (inf s) y a b v w = absurd v
add-values f (fin s m e) nan a b v w = absurd w
add-values f (fin s m e) (inf t) a b v w = absurd w
add-values f (fin true m e) (fin t n d) a b v w = absurd (true≢false v.0)
add-values f (fin false m e) (fin true n d) a b v w = absurd (true≢false w.0)
add-values f (fin false m e) (fin false n d) a b v w =
    round_same f false (m * up e * down d + n * up d * down e) (down e * down d) (a + b) 1 (mul-pos (down_pos e) (down_pos d)) (zero-lt-suc 0)
    (mul-one _ ∙ cross (m * up e) (n * up d) (down e) (down d) a b v.1 w.1)

-- the sum of two whole numbers up to 2 ^ 53 is exact
pub add-whole : (a b : ℕ) → a ≤ 2 ^ 53 → b ≤ 2 ^ 53 → add binary64 (as_f64 a) (as_f64 b) ≡ as_f64 (a + b)
unfolding of_int as_f64
add-whole a b h k = add-values binary64 (round binary64 false a 1) (round binary64 false b 1) a b (round_whole binary64 false a h) (round_whole binary64 false b k)

-- a whole number up to 2 ^ 53 comes back from its float
pub whole_back : (n : ℕ) → n ≤ 2 ^ 53 → T (in_unsigned binary64 64 (as_f64 n)) × (to_unsigned 64 (as_f64 n) ≡ n)
unfolding in_float as_f64
whole_back n h = unsigned_back binary64 64 n (le→leb n (2 ^ 53) h) (omega arith)

odd_no_nan : (d : ℕ) (s : Bool) (q k l : ℕ) → T (not (is_nan (odd d s q k l)))
unfolding odd is_nan
odd_no_nan d s zero k l = tt
odd_no_nan d s (suc q) k l = tt

units-no-nan : (f : Format) (s : Bool) (q k : ℕ) → T (not (is_nan (units f s q k)))
unfolding units is_nan
units-no-nan f s q k = go (ltb (q * 2 ^ k) (2 ^ (low f + suc (emax f))))
  where
    go : (b : Bool) → T (not (is_nan (cond b (odd (suc (prec f)) s q k (low f)) (inf s))))
    go true = odd_no_nan (suc (prec f)) s q k (low f)
    go false = tt

round-no-nan : (f : Format) (s : Bool) (n d : ℕ) → T (not (is_nan (round f s n d)))
round-no-nan f s n d = rw round_is (units-no-nan f s _ _)

div-no-nan : (f : Format) (x y : Float) (a b : ℕ) → HasValue x false a 1 → HasValue y false b 1 → 0 < b → T (not (is_nan (div f x y)))
unfolding div
div-no-nan f nan y a b v w h = absurd v
div-no-nan f (inf s) y a b v w h = absurd v
div-no-nan f (fin s m e) nan a b v w h = absurd w
div-no-nan f (fin s m e) (inf t) a b v w h = absurd w
div-no-nan f (fin s m e) (fin t zero d) a b v w h =
    let z : 0 * up d * 1 ≡ 0 = mul-one (0 * up d) ∙ zero-mul (up d) in
    let p : 0 < b * down d = mul-pos h (down_pos d) in
    let q : 0 * up d * 1 ≡ b * down d = w.1 in
    absurd (omega arith)
div-no-nan f (fin s m e) (fin t (suc n) d) a b v w h = rw eqb-suc-zero (round-no-nan f _ _ _)

-- a whole number is no NaN, nor is a mean of whole numbers
pub whole-no-nan : (n : ℕ) → T (not (is_nan (as_f64 n)))
unfolding of_int as_f64
whole-no-nan n = round-no-nan binary64 false n 1

pub mean-no-nan : (a b : ℕ) → a ≤ 2 ^ 53 → b ≤ 2 ^ 53 → 0 < b → T (not (is_nan (div binary64 (as_f64 a) (as_f64 b))))
unfolding of_int as_f64
mean-no-nan a b h k p = div-no-nan binary64 (round binary64 false a 1) (round binary64 false b 1) a b (round_whole binary64 false a h) (round_whole binary64 false b k) p

pub zero-whole : of_bits binary64 0 ≡ as_f64 0
unfolding of_bits of_int as_f64
zero-whole = refl
