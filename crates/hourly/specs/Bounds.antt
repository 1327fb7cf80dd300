-- Hours outside a journal's are missing, what an hour's lines come to is bounded, and 33,480 bytes hold the text of every journal. Assumes nothing.
use Rattle.std.specs.Prelude.{◌≡◌, refl, Bool, true, false, ◌&&◌, List, [], ◌∷◌, ◌++◌, map, ◌⊎◌, ℕ, zero, suc, ◌+◌, ◌-◌, ◌*◌, ◌≤◌, ◌<◌, leb, eqb, length}
use Rattle.std.proofs.Common.{inl, inr, arith, length-append, le-leb, ne_eqb}
use Rattle.laws.specs.Pick.{pick, pick-t, pick_all, pick-false, pick_same}
use Rattle.laws.specs.Decimal.{decimal, hex_of}
use Rattle.laws.specs.DecimalLaws.{decimal-length, hex-length}
use Rattle.paper.specs.Answer.{done, refused, on_done, in_room}
use Rattle.paper.specs.Numbers.{R8}
use Rattle.text.specs.Scan.{LF, TAB}
use Rattle.journal.specs.Journal.{hour_in, journal_of, first_hour, last_hour}
use Rattle.journal.specs.LineLaws.{dose-range}
use Rattle.journal.specs.JournalLaws.{Each, hour-range}
use Rattle.journal.specs.Order.{Within}
use Rattle.journal.specs.declared.Form.TheVariants.{New}
use Rattle.journal.specs.declared.Line.{Line}
use Rattle.journal.specs.declared.Line.TheVariants.{Dose, On}
use Rattle.holes.specs.Holes.{in_hole, hole_from}
use Rattle.hourly.specs.declared.Products.{Products}
use Rattle.hourly.specs.Hours.{HourAnswer, missing, asks_for, dose_at, amounts_at, is_on, has_on, total, greatest, measured_or_idle, hour_of}
use Rattle.hourly.specs.Text.{Row, row_m, row_i, row_x, letter_m, letter_i, letter_x, row_from, row_of, row_text, rows_of, rows_text, hours_from, span_of, hours_text, print_of}
use Rattle.hourly.specs.Accepted.{Ranged, Accepted, accepted}

-- ---- outside first..last

-- no line between lo and hi is of an hour outside
apart : (lo hi h x : ℕ) → (h < lo) ⊎ (hi < h) → lo ≤ x → x ≤ hi → x ≡ h → ⊥
apart lo hi h x (inl l) a b e = omega arith
apart lo hi h x (inr l) a b e = omega arith

outside-off : (whole ls : List Line) (h : ℕ) → (h < first_hour whole) ⊎ (last_hour whole < h) → Each (Within whole) ls → has_on h ls ≡ false
unfolding has_on is_on hour_in
outside-off whole [] h o w = refl
outside-off whole (Dose x c a s p ∷ ls) h o w = outside-off whole ls h o w.1
outside-off whole (On x ∷ ls) h o w = rw (ne_eqb x h (apart (first_hour whole) (last_hour whole) h x o w.0.from w.0.to)) (outside-off whole ls h o w.1)

-- an hour before the first line's or after the last line's is missing
pub outside-missing : (w : Products) {s : List ℕ} (ls : List Line) (h : ℕ) → Accepted s ls → (h < first_hour ls) ⊎ (last_hour ls < h) → hour_of w ls h ≡ missing
unfolding hour_of
outside-missing w ls h a o = rw (outside-off ls ls h o a.within, pick-false (measured_or_idle (amounts_at w h ls)) missing) (pick_same (in_hole h ls) missing)

-- of an empty journal every hour is missing
pub empty-missing : (w : Products) (h : ℕ) → hour_of w [] h ≡ missing
unfolding hour_of in_hole hole_from has_on pick
empty-missing w h = refl

-- ---- what an hour's lines come to

-- an hour has at most as many doses as there are lines, of at most 1,800,000 each
pub record Modest (n : ℕ) (amounts : List ℕ) : Type 0 where
  pub few : length amounts ≤ n
  pub sum : total amounts ≤ 1800000 * n
  pub most : greatest amounts ≤ 1800000

pub modest : (w : Products) (h : ℕ) (ls : List Line) → Ranged ls → Modest (length ls) (amounts_at w h ls)
unfolding amounts_at dose_at total greatest pick
modest w h [] r = record { few = omega arith; sum = omega arith; most = omega arith }
modest w h (On x ∷ ls) r = let m = modest w h ls r.1 in record { few = omega (arith, m.few); sum = omega (arith, m.sum); most = m.most }
modest w h (Dose x c a s p ∷ ls) r = go (asks_for w p && eqb x h) (modest w h ls r.1) (dose-range New x c a s p r.0).2
  where
    go : (b : Bool) → Modest (length ls) (amounts_at w h ls) → a ≤ 1800000 → Modest (suc (length ls)) (pick b (a ∷ []) [] ++ amounts_at w h ls)
    go true m k = record { few = omega (arith, m.few); sum = omega (arith, m.sum); most = omega (arith, m.most) }
    go false m k = record { few = omega (arith, m.few); sum = omega (arith, m.sum); most = m.most }

-- ---- the length of the text

-- how many bytes a row has
pub measured-length : (h doses sum bits : ℕ) → length (row_text h (row_m doses sum bits)) ≡ length (decimal h) + 22 + length (decimal doses) + length (decimal sum)
unfolding row_text
measured-length h doses sum bits =
    omega (
      arith,
      hex-length 16 bits,
      length-append (decimal h) (TAB ∷ letter_m ∷ TAB ∷ (decimal doses ++ TAB ∷ (decimal sum ++ TAB ∷ (hex_of 16 bits ++ LF ∷ [])))),
      length-append (decimal doses) (TAB ∷ (decimal sum ++ TAB ∷ (hex_of 16 bits ++ LF ∷ []))),
      length-append (decimal sum) (TAB ∷ (hex_of 16 bits ++ LF ∷ [])),
      length-append (hex_of 16 bits) (LF ∷ []),
    )

pub idle-length : (h : ℕ) → length (row_text h row_i) ≡ length (decimal h) + 3
unfolding row_text
idle-length h = length-append (decimal h) (TAB ∷ letter_i ∷ LF ∷ [])

pub missing-length : (h : ℕ) → length (row_text h row_x) ≡ length (decimal h) + 3
unfolding row_text
missing-length h = length-append (decimal h) (TAB ∷ letter_x ∷ LF ∷ [])

abbrev RowShort : Row → Type 0
RowShort (row_m doses sum bits) = (doses < 100000) × (sum < 100000000000)
RowShort row_i = Unit
RowShort row_x = Unit

-- a row of an hour, doses and a sum of at most 7, 5 and 11 digits
row-short : (h : ℕ) (r : Row) → h < 10000000 → RowShort r → length (row_text h r) ≤ 45
row-short h (row_m doses sum bits) a b =
    omega (arith, decimal-length 7 h a (omega arith), decimal-length 5 doses b.0 (omega arith), decimal-length 11 sum b.1 (omega arith), measured-length h doses sum bits)
row-short h row_i a b = omega (arith, decimal-length 7 h a (omega arith), idle-length h)
row-short h row_x a b = omega (arith, decimal-length 7 h a (omega arith), missing-length h)

abbrev ShortOf : List ℕ → HourAnswer → Type 0
ShortOf amounts x = RowShort (row_from x amounts)

row-of-short : (w : Products) (h : ℕ) (ls : List Line) → length (amounts_at w h ls) < 100000 → total (amounts_at w h ls) < 100000000000 → RowShort (row_of w ls h)
unfolding row_of hour_of row_from measured_or_idle
row-of-short w h ls d t = pick_all (ShortOf (amounts_at w h ls)) (in_hole h ls) tt (pick_all (ShortOf (amounts_at w h ls)) (has_on h ls) (either (amounts_at w h ls) d t) tt)
  where
    either : (amounts : List ℕ) → length amounts < 100000 → total amounts < 100000000000 → RowShort (row_from (measured_or_idle amounts) amounts)
    either [] d t = tt
    either (a ∷ as') d t = (d, t)

rows_short : (w : Products) (ls : List Line) (h n : ℕ) → ((k : ℕ) → k < h + n → length (row_text k (row_of w ls k)) ≤ 45) → length (rows_text (map (λ k. record { hour = k; row = row_of w ls k }) (hours_from h n))) ≤ 45 * n
unfolding rows_text hours_from
rows_short w ls h zero f = omega arith
rows_short w ls h (suc n) f =
    omega (
      arith,
      f h (omega arith),
      rows_short w ls (suc h) n (λ k l. f k (omega arith)),
      length-append (row_text h (row_of w ls h)) (rows_text (map (λ k. record { hour = k; row = row_of w ls k }) (hours_from (suc h) n))),
    )

last-most : (ls : List Line) → Ranged ls → last_hour ls ≤ 9999999
unfolding last_hour
last-most [] r = omega arith
last-most (l ∷ []) r = hour-range New l r.0
last-most (l ∷ m ∷ ls) r = last-most (m ∷ ls) r.1

-- the text of an accepted journal is at most 744 rows of 45 bytes
pub text-short : (w : Products) {s : List ℕ} (ls : List Line) → Accepted s ls → length (hours_text w ls) ≤ 33480
unfolding hours_text rows_of span_of rows_text
text-short w [] a = omega arith
text-short w (l ∷ ls) a =
    let lines = a.few in
    let last = last-most (l ∷ ls) a.ranged in
    let order = a.order in
    let span = a.span in
    omega (
      arith,
      rows_short w (l ∷ ls) (first_hour (l ∷ ls)) (suc (last_hour (l ∷ ls) - first_hour (l ∷ ls))) (λ k h. row k (omega arith) lines (modest w k (l ∷ ls) a.ranged)),
    )
  where
    row : (k : ℕ) → k < 10000000 → length (l ∷ ls) ≤ 16384 → Modest (length (l ∷ ls)) (amounts_at w k (l ∷ ls)) → length (row_text k (row_of w (l ∷ ls) k)) ≤ 45
    row k h n m = row-short k (row_of w (l ∷ ls) k) h (row-of-short w k (l ∷ ls) (omega (arith, m.few)) (omega (arith, m.sum)))

-- so with that room the text is never refused with R8
pub room-enough : (w : Products) (s : List ℕ) (ls : List Line) (room : ℕ) → journal_of s ≡ done ls → 33480 ≤ room → print_of w s room ≡ done (hours_text w ls)
unfolding print_of on_done in_room
room-enough w s ls room e h = rw e (pick-t (leb (length (hours_text w ls)) room) (done (hours_text w ls)) (refused R8 []) (le-leb (length (hours_text w ls)) room (omega (arith, text-short w ls (accepted s ls e)))))
