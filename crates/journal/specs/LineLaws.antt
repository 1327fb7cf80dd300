-- A line is read exactly if it is the writer's bytes for its values, and what that says of lengths and places. Assumes nothing.
use Rattle.std.specs.Prelude.{◌≡◌, refl, Bool, true, false, ◌&&◌, List, [], ◌∷◌, ◌++◌, ℕ, suc, ◌+◌, ◌-◌, ◌≤◌, ◌<◌, leb, eqb, length, drop}
use Rattle.std.proofs.Common.{sym, ap, ◌∙◌, subst, append_assoc, append-nil, arith, length-append, length-drop, drop_at, drop-drop, leb-true, le-leb, eqb-true}
use Rattle.std.proofs.lemmas.Bool.{lt-leb}
use Rattle.laws.specs.Pick.{pick, pick-t, pick-f}
use Rattle.laws.specs.Bools.{and_left, and_right}
use Rattle.laws.specs.Whole.{false-true}
use Rattle.laws.specs.Decimal.{Parsed, good, bad, number_at, decimal, is_digit}
use Rattle.laws.specs.DecimalLaws.{Stops, number-decimal, number-only, decimal-some, decimal-length}
use Rattle.paper.specs.Answer.{done, refused, in_room}
use Rattle.paper.specs.Numbers.{R8, R10}
use Rattle.text.specs.Scan.{LF, TAB, expect, on_good}
use Rattle.text.specs.ScanLaws.{bad-good}
use Rattle.journal.specs.Line.{holds, no_line, placed, line_at, write_of, letter_d, letter_h, most_of_d, most_of_h, dose_fields, fields_text, text_of, within, product_most, in_range, fields_at, dose_from, on_from, line_of}
use Rattle.journal.specs.declared.Form.{Form}
use Rattle.journal.specs.declared.Form.TheVariants.{Old, New}
use Rattle.journal.specs.declared.Line.{Line}
use Rattle.journal.specs.declared.Line.TheVariants.{Dose, On}

within-length : (vs ms : List ℕ) → within vs ms ≡ true → length vs ≡ length ms
unfolding within
within-length [] [] e = refl
within-length [] (m ∷ ms) e = false-true e
within-length (v ∷ vs) [] e = false-true e
within-length (v ∷ vs) (m ∷ ms) e = ap suc (within-length vs ms (and_right (leb v m) (within vs ms) e))

stops : (vs rest : List ℕ) → Stops (fields_text vs ++ rest)
unfolding fields_text is_digit
stops [] rest = refl
stops (v ∷ vs) rest = refl

-- the values' text is read as the values
fields-text : (ms vs got rest : List ℕ) → within vs ms ≡ true → fields_at ms got (fields_text vs ++ rest) ≡ good (got ++ vs) rest
unfolding fields_at expect on_good fields_text within pick
fields-text [] [] got rest e = ap (λ (l : List ℕ). good l rest) (sym (append-nil got))
fields-text [] (v ∷ vs) got rest e = false-true e
fields-text (m ∷ ms) [] got rest e = false-true e
fields-text (m ∷ ms) (v ∷ vs) got rest e =
    let h = leb-true v m (and_left (leb v m) (within vs ms) e) in
    ap (λ (l : List ℕ). on_good (number_at m l) (λ w r. fields_at ms (got ++ w ∷ []) r)) (append_assoc (decimal v) (fields_text vs) rest)
    ∙ ap (λ (p : Parsed ℕ). on_good p (λ w r. fields_at ms (got ++ w ∷ []) r)) (number-decimal m v (fields_text vs ++ rest) h (stops vs rest))
    ∙ fields-text ms vs (got ++ v ∷ []) rest (and_right (leb v m) (within vs ms) e)
    ∙ ap (λ (l : List ℕ). good l rest) (append_assoc got (v ∷ []) vs)

-- what was read as values is their text
record Written (ms got l vs rest : List ℕ) : Type 0 where
  ws : List ℕ
  all : vs ≡ got ++ ws
  text : l ≡ fields_text ws ++ rest
  fit : within ws ms ≡ true

expected : {X : Type 0} (b : ℕ) (l : List ℕ) (next : List ℕ → Parsed X) (x : X) (rest : List ℕ) → expect b l next ≡ good x rest → (t : List ℕ) × (l ≡ b ∷ t) × (next t ≡ good x rest)
unfolding expect pick
expected b [] next x rest e = bad-good e
expected b (y ∷ ys) next x rest e = go (eqb y b) refl e
  where
    go : (t : Bool) → eqb y b ≡ t → pick t (next ys) bad ≡ good x rest → (t : List ℕ) × (y ∷ ys ≡ b ∷ t) × (next t ≡ good x rest)
    go true q h = (ys, ap (λ (z : ℕ). z ∷ ys) (eqb-true y b q), h)
    go false q h = bad-good h

gone : {X Y : Type 0} (p : Parsed X) (next : X → List ℕ → Parsed Y) (y : Y) (rest : List ℕ) → on_good p next ≡ good y rest → (v : X) × (r : List ℕ) × (p ≡ good v r) × (next v r ≡ good y rest)
unfolding on_good
gone (good v r) next y rest e = (v, r, refl, e)
gone bad next y rest e = bad-good e

fields-only : (ms got l vs rest : List ℕ) → fields_at ms got l ≡ good vs rest → Written ms got l vs rest
unfolding fields_at fields_text within
fields-only [] got l vs rest e =
    let x = expected LF l (λ r. good got r) vs rest e in
    let t = x.0 in
    let a : vs ≡ got = cc x.2 in
    let b : t ≡ rest = cc x.2 in
    record { ws = []; all = a ∙ sym (append-nil got); text = x.1 ∙ ap (λ (r : List ℕ). LF ∷ r) b; fit = refl }
fields-only (m ∷ ms) got l vs rest e =
    let x = expected TAB l (λ r. on_good (number_at m r) (λ v r'. fields_at ms (got ++ v ∷ []) r')) vs rest e in
    let y = gone (number_at m x.0) (λ v r'. fields_at ms (got ++ v ∷ []) r') vs rest x.2 in
    let n = number-only m x.0 y.0 y.1 y.2 in
    let w = fields-only ms (got ++ y.0 ∷ []) y.1 vs rest y.3 in
    record {
      ws = y.0 ∷ w.ws;
      all = w.all ∙ append_assoc got (y.0 ∷ []) w.ws;
      text = x.1 ∙ ap (λ (r : List ℕ). TAB ∷ r) (n.0 ∙ ap (λ (r : List ℕ). decimal y.0 ++ r) w.text ∙ sym (append_assoc (decimal y.0) (fields_text w.ws) rest));
      fit = ap (λ (b : Bool). b && within w.ws ms) (le-leb y.0 m n.1) ∙ w.fit;
    }

-- the ranges of a line's values
pub dose-range : (f : Form) (h c a s p : ℕ) → in_range f (Dose h c a s p) ≡ true → (h ≤ 9999999) × (c ≤ 999999) × (a ≤ 1800000) × (s ≤ 1) × (p ≤ product_most f)
unfolding in_range within most_of_d
dose-range f h c a s p e =
    let e0 = and_left _ _ e in
    let e1 = and_right (leb h 9999999) _ e0 in
    let e2 = and_right (leb c 999999) _ e1 in
    let e3 = and_right (leb a 1800000) _ e2 in
    (leb-true _ _ (and_left _ _ e0), leb-true _ _ (and_left _ _ e1), leb-true _ _ (and_left _ _ e2), leb-true _ _ (and_left _ _ e3), leb-true _ _ (and_right (within (h ∷ c ∷ a ∷ s ∷ []) (most_of_d Old)) _ e))

pub on-range : (f : Form) (h : ℕ) → in_range f (On h) ≡ true → h ≤ 9999999
unfolding in_range within most_of_h
on-range f h e = leb-true _ _ (and_left _ _ e)

-- values up to the greatest are in range
pub dose-inside : (f : Form) (h c a s p : ℕ) → h ≤ 9999999 → c ≤ 999999 → a ≤ 1800000 → s ≤ 1 → p ≤ product_most f → in_range f (Dose h c a s p) ≡ true
unfolding in_range within most_of_d
dose-inside f h c a s p hh hc ha hs hp = rw (le-leb _ _ hh, le-leb _ _ hc, le-leb _ _ ha, le-leb _ _ hs, le-leb _ _ hp)

pub hour-inside : (f : Form) (h : ℕ) → h ≤ 9999999 → in_range f (On h) ≡ true
unfolding in_range within most_of_h
hour-inside f h e = rw (le-leb _ _ e)

-- a product is at most 255 in either form
pub product-most : (f : Form) → product_most f ≤ 255
unfolding product_most
product-most Old = omega arith
product-most New = omega arith

-- an old line in range is in range in the new form too
pub range-either : (f : Form) (l : Line) → in_range f l ≡ true → in_range New l ≡ true
unfolding product_most
range-either f (Dose h c a s p) e =
    let r = dose-range f h c a s p e in
    dose-inside New h c a s p r.0 r.1 r.2 r.3 (omega (arith, r.4, product-most f))
range-either f (On h) e = hour-inside New h (on-range f h e)

-- a dose in range has its fields in range
fields_within : (f : Form) (h c a s p : ℕ) → in_range f (Dose h c a s p) ≡ true → within (dose_fields f h c a s p) (most_of_d f) ≡ true
unfolding within most_of_d dose_fields product_most
fields_within Old h c a s p e =
    let r = dose-range Old h c a s p e in
    rw (le-leb _ _ r.0, le-leb _ _ r.1, le-leb _ _ r.2, le-leb _ _ r.3)
fields_within New h c a s p e =
    let r = dose-range New h c a s p e in
    rw (le-leb _ _ r.0, le-leb _ _ r.1, le-leb _ _ r.2, le-leb _ _ r.3, le-leb _ _ r.4)

-- fields of a dose in range make it
fields-dose : (f : Form) (h c a s p : ℕ) → in_range f (Dose h c a s p) ≡ true → dose_from f (dose_fields f h c a s p) ≡ Dose h c a s p
unfolding dose_from dose_fields product_most
fields-dose Old h c a s p e = let z : 0 ≡ p = omega (arith, (dose-range Old h c a s p e).4) in ap (λ (q : ℕ). Dose h c a s q) z
fields-dose New h c a s p e = refl

hour-within : (f : Form) (h : ℕ) → in_range f (On h) ≡ true → within (h ∷ []) most_of_h ≡ true
unfolding in_range
hour-within f h e = e

-- what the writer writes is read as what was written
pub read-text : (f : Form) (l : Line) (rest : List ℕ) → in_range f l ≡ true → line_of f (text_of f l ++ rest) ≡ good l rest
unfolding line_of text_of pick on_good on_from
read-text f (Dose h c a s p) rest e =
    ap (λ (q : Parsed (List ℕ)). on_good q (λ vs r. good (dose_from f vs) r)) (fields-text (most_of_d f) (dose_fields f h c a s p) [] rest (fields_within f h c a s p e))
    ∙ ap (λ (l : Line). good l rest) (fields-dose f h c a s p e)
read-text f (On h) rest e = ap (λ (p : Parsed (List ℕ)). on_good p (λ vs r. good (on_from vs) r)) (fields-text most_of_h (h ∷ []) [] rest (hour-within f h e))

-- s is the text of the line l, which is in range, and then rest
pub record Only (f : Form) (l : Line) (s rest : List ℕ) : Type 0 where
  pub text : s ≡ text_of f l ++ rest
  pub range : in_range f l ≡ true

-- values in range make a line whose text is theirs
abbrev Made : Form → ℕ → (List ℕ → Line) → List ℕ → Type 0
Made f letter make vs = (text_of f (make vs) ≡ letter ∷ fields_text vs) × (in_range f (make vs) ≡ true)

old-made : (vs : List ℕ) → within vs (most_of_d Old) ≡ true → Made Old letter_d (dose_from Old) vs
unfolding text_of in_range dose_fields dose_from most_of_d product_most
old-made vs e = go vs e (within-length vs (most_of_d Old) e)
  where
    go : (vs : List ℕ) → within vs (most_of_d Old) ≡ true → length vs ≡ 4 → Made Old letter_d (dose_from Old) vs
    go [] e n = absurd (omega arith)
    go (h ∷ []) e n = absurd (omega arith)
    go (h ∷ c ∷ []) e n = absurd (omega arith)
    go (h ∷ c ∷ a ∷ []) e n = absurd (omega arith)
    go (h ∷ c ∷ a ∷ s ∷ []) e n = (refl, rw e)
    go (h ∷ c ∷ a ∷ s ∷ x ∷ xs) e n = absurd (omega arith)

new-made : (vs : List ℕ) → within vs (most_of_d New) ≡ true → Made New letter_d (dose_from New) vs
unfolding text_of dose_fields dose_from most_of_d product_most within
new-made vs e = go vs e (within-length vs (most_of_d New) e)
  where
    go : (vs : List ℕ) → within vs (most_of_d New) ≡ true → length vs ≡ 5 → Made New letter_d (dose_from New) vs
    go [] e n = absurd (omega arith)
    go (h ∷ []) e n = absurd (omega arith)
    go (h ∷ c ∷ []) e n = absurd (omega arith)
    go (h ∷ c ∷ a ∷ []) e n = absurd (omega arith)
    go (h ∷ c ∷ a ∷ s ∷ []) e n = absurd (omega arith)
    go (h ∷ c ∷ a ∷ s ∷ p ∷ []) e n =
        let e1 = and_right (leb h 9999999) _ e in
        let e2 = and_right (leb c 999999) _ e1 in
        let e3 = and_right (leb a 1800000) _ e2 in
        let e4 = and_right (leb s 1) _ e3 in
        (refl, dose-inside New h c a s p (leb-true _ _ (and_left _ _ e)) (leb-true _ _ (and_left _ _ e1)) (leb-true _ _ (and_left _ _ e2)) (leb-true _ _ (and_left _ _ e3)) (leb-true _ _ (and_left _ _ e4)))
    go (h ∷ c ∷ a ∷ s ∷ p ∷ x ∷ xs) e n = absurd (omega arith)

dose-made : (f : Form) (vs : List ℕ) → within vs (most_of_d f) ≡ true → Made f letter_d (dose_from f) vs
dose-made Old vs e = old-made vs e
dose-made New vs e = new-made vs e

on-made : (f : Form) (vs : List ℕ) → within vs most_of_h ≡ true → Made f letter_h on_from vs
unfolding text_of in_range on_from most_of_h
on-made f vs e = go vs e (within-length vs most_of_h e)
  where
    go : (vs : List ℕ) → within vs most_of_h ≡ true → length vs ≡ 1 → Made f letter_h on_from vs
    go [] e n = absurd (omega arith)
    go (h ∷ []) e n = (refl, e)
    go (h ∷ x ∷ xs) e n = absurd (omega arith)

letter-only : (f : Form) (b letter : ℕ) (bs ms : List ℕ) (make : List ℕ → Line) (l : Line) (rest : List ℕ) → b ≡ letter → ((vs : List ℕ) → within vs ms ≡ true → Made f letter make vs)
    → on_good (fields_at ms [] bs) (λ vs r. good (make vs) r) ≡ good l rest → Only f l (b ∷ bs) rest
letter-only f b letter bs ms make l rest q made e =
    let x = gone (fields_at ms [] bs) (λ vs r. good (make vs) r) l rest e in
    let w = fields-only ms [] bs x.0 x.1 x.2 in
    let m = made w.ws w.fit in
    let a : make x.0 ≡ l = cc x.3 in
    let c : make w.ws ≡ l = ap make (sym w.all) ∙ a in
    let d : x.1 ≡ rest = cc x.3 in
    record {
      text = ap (λ (y : ℕ). y ∷ bs) q ∙ ap (λ (r : List ℕ). letter ∷ r) (w.text ∙ ap (λ (r : List ℕ). fields_text w.ws ++ r) d) ∙ ap (λ (r : List ℕ). r ++ rest) (sym m.0 ∙ ap (text_of f) c);
      range = ap (in_range f) (sym c) ∙ m.1;
    }

-- what is read as a line is what the writer writes for it
pub text-only : (f : Form) (s : List ℕ) (l : Line) (rest : List ℕ) → line_of f s ≡ good l rest → Only f l s rest
unfolding line_of pick
text-only f [] l rest e = bad-good e
text-only f (b ∷ bs) l rest e = go (eqb b letter_d) (eqb b letter_h) refl refl e
  where
    go : (x y : Bool) → eqb b letter_d ≡ x → eqb b letter_h ≡ y
        → pick x (on_good (fields_at (most_of_d f) [] bs) (λ vs r. good (dose_from f vs) r)) (pick y (on_good (fields_at most_of_h [] bs) (λ vs r. good (on_from vs) r)) bad) ≡ good l rest
        → Only f l (b ∷ bs) rest
    go true y p q h = letter-only f b letter_d bs (most_of_d f) (dose_from f) l rest (eqb-true b letter_d p) (dose-made f) h
    go false true p q h = letter-only f b letter_h bs most_of_h on_from l rest (eqb-true b letter_h q) (on-made f) h
    go false false p q h = bad-good h

fields-none : length (fields_text []) ≡ 1
unfolding fields_text
fields-none = refl

fields-length : (v : ℕ) (vs : List ℕ) → length (fields_text (v ∷ vs)) ≡ 1 + length (decimal v) + length (fields_text vs)
unfolding fields_text
fields-length v vs = omega (arith, length-append (decimal v) (fields_text vs))

-- the field of a dose's product: none in the old form
unfoldable pub product_text : Form → ℕ → List ℕ
product_text Old p = []
product_text New p = TAB ∷ decimal p

pub dose-length : (f : Form) (h c a s p : ℕ) → length (text_of f (Dose h c a s p)) ≡ 6 + length (decimal h) + length (decimal c) + length (decimal a) + length (decimal s) + length (product_text f p)
unfolding text_of dose_fields product_text
dose-length Old h c a s p = omega (arith, fields-none, fields-length h (c ∷ a ∷ s ∷ []), fields-length c (a ∷ s ∷ []), fields-length a (s ∷ []), fields-length s [])
dose-length New h c a s p = omega (arith, fields-none, fields-length h (c ∷ a ∷ s ∷ p ∷ []), fields-length c (a ∷ s ∷ p ∷ []), fields-length a (s ∷ p ∷ []), fields-length s (p ∷ []), fields-length p [])

pub on-length : (f : Form) (h : ℕ) → length (text_of f (On h)) ≡ 3 + length (decimal h)
unfolding text_of
on-length f h = omega (arith, fields-none, fields-length h [])

-- a line takes at least 4 bytes
pub text-least : (f : Form) (l : Line) → 4 ≤ length (text_of f l)
text-least f (Dose h c a s p) = omega (arith, dose-length f h c a s p)
text-least f (On h) = omega (arith, on-length f h, decimal-some h)

product-short : (f : Form) (p : ℕ) → p ≤ product_most f → length (product_text f p) ≤ 4
unfolding product_text product_most
product-short Old p h = omega arith
product-short New p h = omega (arith, decimal-length 3 p (omega arith) (omega arith))

-- and at most 31
pub text-most : (f : Form) (l : Line) → in_range f l ≡ true → length (text_of f l) ≤ 31
text-most f (Dose h c a s p) e =
    let r = dose-range f h c a s p e in
    omega (arith, dose-length f h c a s p, decimal-length 7 h (omega arith) (omega arith), decimal-length 6 c (omega arith) (omega arith), decimal-length 7 a (omega arith) (omega arith), decimal-length 1 s (omega arith) (omega arith), product-short f p r.4)
text-most f (On h) e =
    let r = on-range f h e in
    omega (arith, on-length f h, decimal-length 7 h (omega arith) (omega arith))

-- what follows a line is shorter, and stands where the line's bytes end
pub line-shorter : (f : Form) (s : List ℕ) (l : Line) (rest : List ℕ) → line_of f s ≡ good l rest → length rest < length s
line-shorter f s l rest e =
    omega (arith, ap length (text-only f s l rest e).text, length-append (text_of f l) rest, text-least f l)

pub line-rest : (f : Form) (s : List ℕ) (l : Line) (rest : List ℕ) → line_of f s ≡ good l rest → rest ≡ drop (length s - length rest) s
line-rest f s l rest e =
    let o = (text-only f s l rest e).text in
    let n : length (text_of f l) ≡ length s - length rest = omega (arith, ap length o, length-append (text_of f l) rest) in
    sym (ap (drop (length s - length rest)) o ∙ drop_at (text_of f l) rest (length s - length rest) n)

-- a place is what is left after the bytes from it on
pub place-back : (s : List ℕ) (p : ℕ) → p ≤ length s → length s - length (drop p s) ≡ p
place-back s p h = rw (length-drop p s) (omega arith)

pub holds-none : {Q : Type 0} {l : Line} {k : ℕ} → holds l k ≡ no_line → Q
holds-none e = let z : ◌≡◌ {A = ℕ} 0 1 = cc in absurd (omega arith)

pub placed-none : (n : ℕ) (p : Parsed Line) → placed n p ≡ no_line → p ≡ bad
unfolding placed
placed-none n (good l rest) e = holds-none e
placed-none n bad e = refl

pub placed-good : (n k : ℕ) (l : Line) (p : Parsed Line) → holds l k ≡ placed n p → (rest : List ℕ) × (p ≡ good l rest) × (k ≡ n - length rest)
unfolding placed
placed-good n k l (good m rest) e =
    let a : l ≡ m = cc in
    (rest, cc, cc)
placed-good n k l bad e = holds-none e

-- from `at` on stands the line l, and `next` is the place after it
pub record LineStands (f : Form) (s : List ℕ) (at : ℕ) (l : Line) (next : ℕ) : Type 0 where
  pub line : line_of f (drop at s) ≡ good l (drop next s)
  pub is : line_at f s at ≡ holds l next
  pub onward : at < next
  pub inside : next ≤ length s

pub stands : (f : Form) (s : List ℕ) (at : ℕ) (l : Line) (rest : List ℕ) → line_of f (drop at s) ≡ good l rest → LineStands f s at l (length s - length rest)
unfolding line_at placed
stands f s at l rest e =
    let d = line-shorter f (drop at s) l rest e in
    let n : length (drop at s) ≡ length s - at = length-drop at s in
    let k : at + (length (drop at s) - length rest) ≡ length s - length rest = omega arith in
    record {
      line = e ∙ ap (λ (r : List ℕ). good l r) (line-rest f (drop at s) l rest e ∙ drop-drop (length (drop at s) - length rest) at s ∙ ap (λ (j : ℕ). drop j s) k);
      is = ap (placed (length s)) e;
      onward = omega arith;
      inside = omega arith;
    }

-- what a reader that answered a line at a place has found
pub line-at-only : (f : Form) (s : List ℕ) (at : ℕ) (l : Line) (next : ℕ) → holds l next ≡ line_at f s at → LineStands f s at l next
unfolding line_at
line-at-only f s at l next e =
    let x = placed-good (length s) next l (line_of f (drop at s)) e in
    subst (λ (k : ℕ). LineStands f s at l k) (sym x.2) (stands f s at l x.0 x.1)

-- what is read there and goes on at a place
pub stands_at : (f : Form) (s : List ℕ) (at : ℕ) (l : Line) (next : ℕ) → line_of f (drop at s) ≡ good l (drop next s) → next ≤ length s → LineStands f s at l next
stands_at f s at l next e h = subst (λ (k : ℕ). LineStands f s at l k) (place-back s next h) (stands f s at l (drop next s) e)

-- the writer's answers
pub write-range : (f : Form) (l : Line) (room : ℕ) → in_range f l ≡ false → write_of f l room ≡ refused R10 (0 ∷ [])
unfolding write_of
write-range f l room e = pick-f _ _ _ e

pub write-short : (f : Form) (l : Line) (room : ℕ) → in_range f l ≡ true → room < length (text_of f l) → write_of f l room ≡ refused R8 []
unfolding write_of in_room
write-short f l room e h = pick-t _ _ _ e ∙ pick-f _ _ _ (lt-leb _ _ h)

pub write-fits : (f : Form) (l : Line) (room : ℕ) → in_range f l ≡ true → length (text_of f l) ≤ room → write_of f l room ≡ done (text_of f l)
unfolding write_of in_room
write-fits f l room e h = pick-t _ _ _ e ∙ pick-t _ _ _ (le-leb _ _ h)
