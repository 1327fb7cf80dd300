-- The text determines the rows: two journals with the same text have the same rows. Assumes nothing.
use Rattle.std.specs.Prelude.{◌≡◌, refl, List, [], ◌∷◌, ◌++◌, map, ℕ, ◌^◌, ◌<◌, length, take, drop}
use Rattle.std.proofs.Common.{sym, ap, ◌∙◌, append_assoc, arith, length-append, take_at, drop_at}
use Rattle.std.specs.Float.{binary64}
use Rattle.std.specs.Float.Ieee.Bits.{to_bits-lt}
use Rattle.std.specs.Float.Ieee.Fits.{div-fits}
use Rattle.laws.specs.Pick.{pick_all}
use Rattle.laws.specs.Decimal.{decimal, hex_of}
use Rattle.laws.specs.DecimalLaws.{decimal-apart, hex-apart, hex-length}
use Rattle.text.specs.Scan.{LF, TAB}
use Rattle.journal.specs.declared.Line.{Line}
use Rattle.holes.specs.Holes.{in_hole}
use Rattle.hourly.specs.declared.Products.{Products}
use Rattle.hourly.specs.Hours.{HourAnswer, amounts_at, has_on, sum_of, mean_of, measured_or_idle, hour_of, as_f64}
use Rattle.hourly.specs.Text.{Row, row_m, row_i, row_x, letter_m, letter_i, letter_x, HourRow, row_from, row_of, row_text, rows_of, rows_text, hours_text, span_of}

-- the mean's bits are 64
abbrev pub RowFits : Row → Type 0
RowFits (row_m doses sum bits) = bits < 16 ^ 16
RowFits row_i = Unit
RowFits row_x = Unit

abbrev pub RowsFit : List HourRow → Type 0
RowsFit [] = Unit
RowsFit (p ∷ ps) = RowFits p.row × RowsFit ps

-- what stands behind the hour and its tab
unfoldable pub tail_text : Row → List ℕ
tail_text (row_m doses sum bits) = letter_m ∷ TAB ∷ (decimal doses ++ TAB ∷ (decimal sum ++ TAB ∷ (hex_of 16 bits ++ LF ∷ [])))
tail_text row_i = letter_i ∷ LF ∷ []
tail_text row_x = letter_x ∷ LF ∷ []

-- a row is the hour, a tab and its tail
pub row_is : (h : ℕ) (r : Row) → row_text h r ≡ decimal h ++ TAB ∷ tail_text r
unfolding row_text tail_text
row_is h (row_m doses sum bits) = refl
row_is h row_i = refl
row_is h row_x = refl

row-tail : (h : ℕ) (r : Row) (x : List ℕ) → row_text h r ++ x ≡ decimal h ++ TAB ∷ (tail_text r ++ x)
row-tail h r x = ap (λ (t : List ℕ). t ++ x) (row_is h r) ∙ append_assoc (decimal h) (TAB ∷ tail_text r) x

-- a measured tail, its parts one behind the other
measured-tail : (doses sum bits : ℕ) (x : List ℕ) → tail_text (row_m doses sum bits) ++ x ≡ letter_m ∷ TAB ∷ (decimal doses ++ TAB ∷ (decimal sum ++ TAB ∷ (hex_of 16 bits ++ LF ∷ x)))
unfolding tail_text
measured-tail doses sum bits x = simp append_assoc

-- two texts that begin with the 16 digits of a number
hex-parts : (a b : ℕ) (x y : List ℕ) → a < 16 ^ 16 → b < 16 ^ 16 → hex_of 16 a ++ LF ∷ x ≡ hex_of 16 b ++ LF ∷ y → (a ≡ b) × (x ≡ y)
hex-parts a b x y h k e =
    let front : hex_of 16 a ≡ hex_of 16 b = sym (take_at (hex_of 16 a) (LF ∷ x) 16 (hex-length 16 a)) ∙ ap (take 16) e ∙ take_at (hex_of 16 b) (LF ∷ y) 16 (hex-length 16 b) in
    let rest : LF ∷ x ≡ LF ∷ y = sym (drop_at (hex_of 16 a) (LF ∷ x) 16 (hex-length 16 a)) ∙ ap (drop 16) e ∙ drop_at (hex_of 16 b) (LF ∷ y) 16 (hex-length 16 b) in
    (hex-apart 16 a b h k front, cc)

tail_apart : (r q : Row) (x y : List ℕ) → RowFits r → RowFits q → tail_text r ++ x ≡ tail_text q ++ y → (r ≡ q) × (x ≡ y)
unfolding tail_text
tail_apart (row_m d s b) (row_m d' s' b') x y h k e =
    let f : letter_m ∷ TAB ∷ (decimal d ++ TAB ∷ (decimal s ++ TAB ∷ (hex_of 16 b ++ LF ∷ x))) ≡ letter_m ∷ TAB ∷ (decimal d' ++ TAB ∷ (decimal s' ++ TAB ∷ (hex_of 16 b' ++ LF ∷ y)))
    = sym (measured-tail d s b x) ∙ e ∙ measured-tail d' s' b' y in
    let doses = decimal-apart d d' (decimal s ++ TAB ∷ (hex_of 16 b ++ LF ∷ x)) (decimal s' ++ TAB ∷ (hex_of 16 b' ++ LF ∷ y)) (cc) in
    let sums = decimal-apart s s' (hex_of 16 b ++ LF ∷ x) (hex_of 16 b' ++ LF ∷ y) doses.1 in
    let bits = hex-parts b b' x y h k sums.1 in
    let p : d ≡ d' = doses.0 in
    let q : s ≡ s' = sums.0 in
    let u : b ≡ b' = bits.0 in
    (cc, bits.1)
tail_apart (row_m d s b) row_i x y h k e = let z : ◌≡◌ {A = ℕ} letter_m letter_i = cc in absurd (omega arith)
tail_apart (row_m d s b) row_x x y h k e = let z : ◌≡◌ {A = ℕ} letter_m letter_x = cc in absurd (omega arith)
tail_apart row_i (row_m d s b) x y h k e = let z : ◌≡◌ {A = ℕ} letter_i letter_m = cc in absurd (omega arith)
tail_apart row_i row_i x y h k e = (refl, cc)
tail_apart row_i row_x x y h k e = let z : ◌≡◌ {A = ℕ} letter_i letter_x = cc in absurd (omega arith)
tail_apart row_x (row_m d s b) x y h k e = let z : ◌≡◌ {A = ℕ} letter_x letter_m = cc in absurd (omega arith)
tail_apart row_x row_i x y h k e = let z : ◌≡◌ {A = ℕ} letter_x letter_i = cc in absurd (omega arith)
tail_apart row_x row_x x y h k e = (refl, cc)

row-some : (p : HourRow) (x : List ℕ) → [] ≡ row_text p.hour p.row ++ x → ⊥
row-some p x e =
    let n = ap length (e ∙ row-tail p.hour p.row x) in
    omega (arith, n, length-append (decimal p.hour) (TAB ∷ (tail_text p.row ++ x)))

-- the text determines the rows
pub rows_apart : (a b : List HourRow) → RowsFit a → RowsFit b → rows_text a ≡ rows_text b → a ≡ b
unfolding rows_text
rows_apart [] [] h k e = refl
rows_apart [] (q ∷ qs) h k e = absurd (row-some q (rows_text qs) e)
rows_apart (p ∷ ps) [] h k e = absurd (row-some p (rows_text ps) (sym e))
rows_apart (p ∷ ps) (q ∷ qs) h k e =
    let f = sym (row-tail p.hour p.row (rows_text ps)) ∙ e ∙ row-tail q.hour q.row (rows_text qs) in
    let hours = decimal-apart p.hour q.hour (tail_text p.row ++ rows_text ps) (tail_text q.row ++ rows_text qs) f in
    let rows = tail_apart p.row q.row (rows_text ps) (rows_text qs) h.0 k.0 hours.1 in
    let u : p ≡ q = same_row p q hours.0 rows.0 in
    let v : ps ≡ qs = rows_apart ps qs h.1 k.1 rows.1 in
    cc
  where
    same_row : (p q : HourRow) → p.hour ≡ q.hour → p.row ≡ q.row → p ≡ q
    same_row p q u v = ap (λ (h : ℕ). record { hour = h; row = p.row }) u ∙ ap (λ (r : Row). record { hour = q.hour; row = r }) v

abbrev FitsOf : List ℕ → HourAnswer → Type 0
FitsOf amounts x = RowFits (row_from x amounts)

-- every row of a journal has 64 bits
row_fits : (w : Products) (ls : List Line) (h : ℕ) → RowFits (row_of w ls h)
unfolding row_of hour_of row_from measured_or_idle mean_of
row_fits w ls h = pick_all (FitsOf (amounts_at w h ls)) (in_hole h ls) tt (pick_all (FitsOf (amounts_at w h ls)) (has_on h ls) (either (amounts_at w h ls)) tt)
  where
    either : (amounts : List ℕ) → RowFits (row_from (measured_or_idle amounts) amounts)
    either [] = tt
    either (a ∷ as') = to_bits-lt binary64 (mean_of (a ∷ as')) (div-fits binary64 (sum_of (a ∷ as')) (as_f64 (length (a ∷ as'))))

rows_fit : (w : Products) (ls : List Line) (hs : List ℕ) → RowsFit (map (λ h. record { hour = h; row = row_of w ls h }) hs)
rows_fit w ls [] = tt
rows_fit w ls (h ∷ hs) = (row_fits w ls h, rows_fit w ls hs)

-- two journals with the same text, for whatever products, have the same rows
pub text-apart : (w v : Products) (ls ms : List Line) → hours_text w ls ≡ hours_text v ms → rows_of w ls ≡ rows_of v ms
unfolding hours_text rows_of
text-apart w v ls ms e = rows_apart (rows_of w ls) (rows_of v ms) (rows_fit w ls (span_of ls)) (rows_fit v ms (span_of ms)) e
