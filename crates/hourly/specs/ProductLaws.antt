-- Hours for one product beside those over all: where every dose has one product they are the same, missing is missing for each, and the sums of all products add up. Assumes nothing.
use Rattle.std.specs.Prelude.{◌≡◌, refl, Bool, true, false, ◌&&◌, List, [], ◌∷◌, ◌++◌, map, ℕ, zero, suc, ◌+◌, ◌<◌, eqb}
use Rattle.std.proofs.Common.{sym, ap, ◌∙◌, arith, eq-eqb, ne_eqb}
use Rattle.std.proofs.Math.Decide.{ℕ_discrete}
use Rattle.laws.specs.Pick.{pick, pick_true, pick-false}
use Rattle.journal.specs.Line.{in_range, product_most}
use Rattle.journal.specs.LineLaws.{dose-range}
use Rattle.journal.specs.JournalLaws.{Each}
use Rattle.journal.specs.declared.Form.TheVariants.{New}
use Rattle.journal.specs.declared.Line.{Line}
use Rattle.journal.specs.declared.Line.TheVariants.{Dose, On}
use Rattle.holes.specs.Holes.{in_hole}
use Rattle.hourly.specs.Hours.{missing, asks_for, dose_at, amounts_at, has_on, total, measured_or_idle, hour_of}
use Rattle.hourly.specs.Text.{Row, row_m, row_i, row_x, HourRow, row_from, row_of, rows_of, span_of}
use Rattle.hourly.specs.Accepted.{Ranged}
use Rattle.hourly.specs.declared.Products.{Products}
use Rattle.hourly.specs.declared.Products.TheVariants.{All, One}

-- ---- every dose of one product

-- a dose of product q, or an H
abbrev pub OfProduct : ℕ → Line → Type 0
OfProduct q (Dose h c a s p) = p ≡ q
OfProduct q (On h) = Unit

amounts-one : (q h : ℕ) (ls : List Line) → Each (OfProduct q) ls → amounts_at (One q) h ls ≡ amounts_at All h ls
unfolding amounts_at dose_at asks_for
amounts-one q h [] e = refl
amounts-one q h (Dose x c a s p ∷ ls) e = rw (eq-eqb p q e.0, amounts-one q h ls e.1)
amounts-one q h (On x ∷ ls) e = amounts-one q h ls e.1

-- where every dose has one product, that product's hours are those over all
pub one-is-all : (q : ℕ) (ls : List Line) → Each (OfProduct q) ls → (h : ℕ) → hour_of (One q) ls h ≡ hour_of All ls h
unfolding hour_of
one-is-all q ls e h = ap (λ (amounts : List ℕ). pick (in_hole h ls) missing (pick (has_on h ls) (measured_or_idle amounts) missing)) (amounts-one q h ls e)

-- and they are printed alike
pub one-prints-all : (q : ℕ) (ls : List Line) → Each (OfProduct q) ls → rows_of (One q) ls ≡ rows_of All ls
unfolding rows_of row_of
one-prints-all q ls e = go (span_of ls)
  where
    go : (hs : List ℕ) → map {B = HourRow} (λ h. record { hour = h; row = row_from (hour_of (One q) ls h) (amounts_at (One q) h ls) }) hs ≡ map {B = HourRow} (λ h. record { hour = h; row = row_from (hour_of All ls h) (amounts_at All h ls) }) hs
    go [] = refl
    go (h ∷ hs) = rw (one-is-all q ls e h, amounts-one q h ls e, go hs)

-- ---- a missing hour

-- an hour that is missing for some products is missing for any others
pub missing-each : (w v : Products) (ls : List Line) (h : ℕ) → hour_of w ls h ≡ missing → hour_of v ls h ≡ missing
unfolding hour_of measured_or_idle pick
missing-each w v ls h = go (in_hole h ls) (has_on h ls) (amounts_at w h ls) (amounts_at v h ls)
  where
    go : (hole on : Bool) (a b : List ℕ) → pick hole missing (pick on (measured_or_idle a) missing) ≡ missing → pick hole missing (pick on (measured_or_idle b) missing) ≡ missing
    go true on a b e = refl
    go false true [] b e = let z : ◌≡◌ {A = ℕ} 0 1 = cc in absurd (omega arith)
    go false true (x ∷ xs) b e = let z : ◌≡◌ {A = ℕ} 0 1 = cc in absurd (omega arith)
    go false false a b e = refl

-- ---- the sums of all products

-- f 0 + .. + f (n - 1)
unfoldable pub sum_below : ℕ → (ℕ → ℕ) → ℕ
sum_below zero f = 0
sum_below (suc n) f = f n + sum_below n f

sum-zero : (n : ℕ) (f : ℕ → ℕ) → ((p : ℕ) → p < n → f p ≡ 0) → sum_below n f ≡ 0
unfolding sum_below
sum-zero zero f h = refl
sum-zero (suc n) f h = omega (arith, h n (omega arith), sum-zero n f (λ p l. h p (omega arith)))

sum_same : (n : ℕ) (f g : ℕ → ℕ) → ((p : ℕ) → p < n → f p ≡ g p) → sum_below n f ≡ sum_below n g
unfolding sum_below
sum_same zero f g h = refl
sum_same (suc n) f g h = omega (arith, h n (omega arith), sum_same n f g (λ p l. h p (omega arith)))

sum-add : (n : ℕ) (f g : ℕ → ℕ) → sum_below n (λ p. f p + g p) ≡ sum_below n f + sum_below n g
unfolding sum_below
sum-add zero f g = refl
sum-add (suc n) f g = omega (arith, sum-add n f g)

-- of an amount that counts for one number only
sum-single : (n p a : ℕ) → p < n → sum_below n (λ q. pick (eqb p q) a 0) ≡ a
unfolding sum_below
sum-single zero p a h = absurd (omega arith)
sum-single (suc n) p a h = go (ℕ_discrete p n) (sum-single n p a)
  where
    other : (q : ℕ) → (p ≡ q → ⊥) → pick (eqb p q) a 0 ≡ 0
    other q d = ap (λ (b : Bool). pick b a 0) (ne_eqb p q d) ∙ pick-false a 0

    go : Dec (p ≡ n) → (p < n → sum_below n (λ q. pick (eqb p q) a 0) ≡ a) → pick (eqb p n) a 0 + sum_below n (λ q. pick (eqb p q) a 0) ≡ a
    go (yes e) again = omega (arith, ap (λ (b : Bool). pick b a 0) (eq-eqb p n e) ∙ pick_true a 0, sum-zero n (λ q. pick (eqb p q) a 0) (λ q l. other q (λ d. omega arith)))
    go (no d) again = omega (arith, other n d, again (omega arith))

no-total : total [] ≡ 0
unfolding total
no-total = refl

total-append : (a b : List ℕ) → total (a ++ b) ≡ total a + total b
unfolding total
total-append [] b = omega arith
total-append (x ∷ xs) b = omega (arith, total-append xs b)

-- an amount that counts where a test holds, and nowhere where another fails
counted-once : (a : ℕ) (b : Bool) → total (pick (b && true) (a ∷ []) []) ≡ pick b a 0
unfolding total pick
counted-once a true = omega arith
counted-once a false = refl

counted_never : (a : ℕ) (b : Bool) → total (pick (b && false) (a ∷ []) []) ≡ 0
unfolding total pick
counted_never a true = refl
counted_never a false = refl

counted-here : (a : ℕ) (b : Bool) → total (pick b (a ∷ []) []) ≡ pick b a 0
unfolding total pick
counted-here a true = omega arith
counted-here a false = refl

-- the amount of one line, for each product and over all
dose-sums : (h x c a s p : ℕ) → p < 256 → sum_below 256 (λ q. total (dose_at (One q) h (Dose x c a s p))) ≡ total (dose_at All h (Dose x c a s p))
unfolding dose_at asks_for
dose-sums h x c a s p l = go (eqb x h)
  where
    go : (b : Bool) → sum_below 256 (λ q. total (pick (eqb p q && b) (a ∷ []) [])) ≡ total (pick b (a ∷ []) [])
    go true = sum_same 256 (λ q. total (pick (eqb p q && true) (a ∷ []) [])) (λ q. pick (eqb p q) a 0) (λ q k. counted-once a (eqb p q)) ∙ sum-single 256 p a l ∙ sym (counted-here a true ∙ pick_true a 0)
    go false = sum-zero 256 (λ q. total (pick (eqb p q && false) (a ∷ []) [])) (λ q k. counted_never a (eqb p q)) ∙ sym (counted-here a false ∙ pick-false a 0)

-- of an H none
on-sums : (h x : ℕ) → sum_below 256 (λ q. total (dose_at (One q) h (On x))) ≡ total (dose_at All h (On x))
unfolding dose_at total
on-sums h x = sum-zero 256 (λ q. 0) (λ q k. refl)

line-sums : (h : ℕ) (l : Line) → in_range New l ≡ true → sum_below 256 (λ q. total (dose_at (One q) h l)) ≡ total (dose_at All h l)
unfolding product_most
line-sums h (Dose x c a s p) r = dose-sums h x c a s p (omega (arith, (dose-range New x c a s p r).4))
line-sums h (On x) r = on-sums h x

-- the sums of the 256 products add up to the sum over all, hour by hour
pub amounts-add-up : (h : ℕ) (ls : List Line) → Ranged ls → sum_below 256 (λ q. total (amounts_at (One q) h ls)) ≡ total (amounts_at All h ls)
unfolding amounts_at
amounts-add-up h [] r = sum-zero 256 (λ q. total []) (λ q k. no-total) ∙ sym no-total
amounts-add-up h (l ∷ ls) r =
    sum_same 256 (λ q. total (dose_at (One q) h l ++ amounts_at (One q) h ls)) (λ q. total (dose_at (One q) h l) + total (amounts_at (One q) h ls)) (λ q k. total-append (dose_at (One q) h l) (amounts_at (One q) h ls))
    ∙ sum-add 256 (λ q. total (dose_at (One q) h l)) (λ q. total (amounts_at (One q) h ls))
    ∙ sums (line-sums h l r.0) (amounts-add-up h ls r.1)
    ∙ sym (total-append (dose_at All h l) (amounts_at All h ls))
  where
    sums : {a b c d : ℕ} → a ≡ b → c ≡ d → a + c ≡ b + d
    sums p q = omega arith

-- the sum that is printed of an hour, 0 where none is
unfoldable pub sum_in : Row → ℕ
sum_in (row_m doses sum bits) = sum
sum_in row_i = 0
sum_in row_x = 0

sum-printed : (w : Products) (ls : List Line) (h : ℕ) → sum_in (row_of w ls h) ≡ pick (in_hole h ls) 0 (pick (has_on h ls) (total (amounts_at w h ls)) 0)
unfolding row_of row_from hour_of measured_or_idle sum_in pick
sum-printed w ls h = go (in_hole h ls) (has_on h ls) (amounts_at w h ls)
  where
    go : (hole on : Bool) (amounts : List ℕ) → sum_in (row_from (pick hole missing (pick on (measured_or_idle amounts) missing)) amounts) ≡ pick hole 0 (pick on (total amounts) 0)
    go true on amounts = refl
    go false true [] = sym no-total
    go false true (a ∷ as') = refl
    go false false amounts = refl

-- so do the sums that are printed for each product: to the one printed over all
pub sums-add-up : (ls : List Line) → Ranged ls → (h : ℕ) → sum_below 256 (λ q. sum_in (row_of (One q) ls h)) ≡ sum_in (row_of All ls h)
sums-add-up ls r h =
    sum_same 256 (λ q. sum_in (row_of (One q) ls h)) (λ q. pick (in_hole h ls) 0 (pick (has_on h ls) (total (amounts_at (One q) h ls)) 0)) (λ q k. sum-printed (One q) ls h)
    ∙ go (in_hole h ls) (has_on h ls)
    ∙ sym (sum-printed All ls h)
  where
    shown : (hole on : Bool) → ℕ → ℕ
    shown hole on n = pick hole 0 (pick on n 0)

    none : (hole : Bool) (on : Bool) → ((n : ℕ) → shown hole on n ≡ 0) → sum_below 256 (λ q. shown hole on (total (amounts_at (One q) h ls))) ≡ shown hole on (total (amounts_at All h ls))
    none hole on z = sum-zero 256 (λ q. shown hole on (total (amounts_at (One q) h ls))) (λ q k. z (total (amounts_at (One q) h ls))) ∙ sym (z (total (amounts_at All h ls)))

    go : (hole on : Bool) → sum_below 256 (λ q. pick hole 0 (pick on (total (amounts_at (One q) h ls)) 0)) ≡ pick hole 0 (pick on (total (amounts_at All h ls)) 0)
    go true on = none true on (λ n. pick_true 0 _)
    go false true =
        sum_same 256 (λ q. shown false true (total (amounts_at (One q) h ls))) (λ q. total (amounts_at (One q) h ls)) (λ q k. pick-false _ _ ∙ pick_true _ _)
        ∙ amounts-add-up h ls r
        ∙ sym (pick-false _ _ ∙ pick_true _ _)
    go false false = none false false (λ n. pick-false 0 _ ∙ pick-false _ _)
