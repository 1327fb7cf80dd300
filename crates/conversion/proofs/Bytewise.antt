-- Byte by byte the lines become those of the other form, and the first product other than 0 is found. Assumes nothing.
use mathlib.Core.Path.{◌≡◌, refl, sym, ap, ◌∙◌}
use mathlib.Core.Bool.{Bool, true, false, ◌&&◌}
use mathlib.Core.List.{List, [], ◌∷◌, ◌++◌, append_assoc}
use Prim.Native.Nat.{ℕ, zero, suc, ◌+◌, ◌*◌, ◌≤◌, ◌<◌}
use native.Mathlib.Omega.{arith}
use native.Mathlib.Numerals.{add-one}
use lib.Dec.{T, eqb, leb}
use lib.ListN.{length, get_or, drop, drop_of_length-le, length-append}
use lib.Seq.{drop-cons}
use borrow.Author.Tests.{ne_eqb, le-leb, lt-leb, eqb-true, eqb-false}
use Rattle.laws.specs.Pick.{pick, pick-t, pick-f, pick_all}
use Rattle.laws.specs.Tests.{each, both_left, both_right}
use Rattle.laws.specs.Decimal.{decimal, digits_of, glyph, is_digit}
use Rattle.laws.specs.DecimalLaws.{decimal-digits, decimal-some, decimal-first, digit-range}
use Rattle.paper.specs.Answer.{Answer, refused}
use Rattle.paper.specs.Numbers.{R18}
use Rattle.text.specs.Scan.{LF, TAB}
use Rattle.journal.specs.Line.{version_text, letter_d, letter_h, fields_text, dose_fields, text_of}
use Rattle.journal.specs.Journal.{head_text, lines_text}
use Rattle.journal.specs.declared.Form.{Form}
use Rattle.journal.specs.declared.Form.TheVariants.{Old, New}
use Rattle.journal.specs.declared.Line.{Line}
use Rattle.journal.specs.declared.Line.TheVariants.{Dose, On}
use Rattle.conversion.specs.Conversion.{product_in, goes_back}
use Rattle.conversion.specs.Forms.{Zeros}
use Rattle.conversion.specs.Bytes.{tabs_after, new_piece, old_piece, piece_of, bytes_to, is_other, line_after, other_from}

-- ---- a byte that is neither tab nor LF

plain-tabs : (t b : ℕ) → 10 < b → tabs_after t b ≡ t
unfolding tabs_after
plain-tabs t b h =
    let x : b ≡ LF → ⊥ = λ e. omega arith in
    let y : b ≡ TAB → ⊥ = λ e. omega arith in
    pick-f _ _ _ (ne_eqb _ _ x) ∙ pick-f _ _ _ (ne_eqb _ _ y)

plain-line : (n b : ℕ) → 10 < b → line_after n b ≡ n
unfolding line_after
plain-line n b h = let x : b ≡ LF → ⊥ = λ e. omega arith in pick-f _ _ _ (ne_eqb _ _ x)

plain-piece : (f : Form) (t b : ℕ) → 10 < b → t ≤ 4 → piece_of f t b ≡ b ∷ []
unfolding piece_of new_piece old_piece
plain-piece Old t b h k = pick-t (leb (tabs_after t b) 4) (b ∷ []) [] (le-leb (tabs_after t b) 4 (omega (arith, plain-tabs t b h)))
plain-piece New t b h k = let x : b ≡ LF → ⊥ = λ e. omega arith in pick-f _ _ _ (ap (λ (q : Bool). q && eqb t 4) (ne_eqb _ _ x))

plain-to : (f : Form) (t b : ℕ) (r : List ℕ) → 10 < b → t ≤ 4 → bytes_to f t (b ∷ r) ≡ b ∷ bytes_to f t r
unfolding bytes_to
plain-to f t b r h k = ap (λ (p : List ℕ). p ++ bytes_to f (tabs_after t b) r) (plain-piece f t b h k) ∙ ap (λ (u : ℕ). b ∷ bytes_to f u r) (plain-tabs t b h)

-- in the fifth field it falls
plain-gone : (b : ℕ) (r : List ℕ) → 10 < b → bytes_to Old 5 (b ∷ r) ≡ bytes_to Old 5 r
unfolding bytes_to piece_of old_piece
plain-gone b r h =
    ap (λ (p : List ℕ). p ++ bytes_to Old (tabs_after 5 b) r) (pick-f (leb (tabs_after 5 b) 4) (b ∷ []) [] (lt-leb (tabs_after 5 b) 4 (omega (arith, plain-tabs 5 b h))))
    ∙ ap (λ (u : ℕ). bytes_to Old u r) (plain-tabs 5 b h)

not_five : (t b : ℕ) → t ≤ 4 → is_other t b ≡ false
unfolding is_other
not_five t b k = let x : t ≡ 5 → ⊥ = λ e. omega arith in rw (ne_eqb _ _ x)

plain_other : (n t b : ℕ) (r : List ℕ) → 10 < b → t ≤ 4 → other_from n t (b ∷ r) ≡ other_from n t r
unfolding other_from
plain_other n t b r h k =
    pick-f _ _ _ (not_five t b k)
    ∙ ap (λ (m : ℕ). other_from m (tabs_after t b) r) (plain-line n b h)
    ∙ ap (λ (u : ℕ). other_from n u r) (plain-tabs t b h)

-- ---- a run of digits

digit-plain : (b : ℕ) (ds : List ℕ) → T (each is_digit (b ∷ ds)) → 10 < b
unfolding each
digit-plain b ds h = omega (arith, (digit-range b (digit-true (is_digit b) (both_left (is_digit b) (each is_digit ds) h))).0)
  where
    digit-true : (x : Bool) → T x → x ≡ true
    digit-true true t = refl
    digit-true false t = absurd t

digit-rest : (b : ℕ) (ds : List ℕ) → T (each is_digit (b ∷ ds)) → T (each is_digit ds)
unfolding each
digit-rest b ds h = both_right (is_digit b) (each is_digit ds) h

digits-to : (f : Form) (t : ℕ) (ds r : List ℕ) → T (each is_digit ds) → t ≤ 4 → bytes_to f t (ds ++ r) ≡ ds ++ bytes_to f t r
digits-to f t [] r h k = refl
digits-to f t (d ∷ ds) r h k = plain-to f t d (ds ++ r) (digit-plain d ds h) k ∙ ap (λ (l : List ℕ). d ∷ l) (digits-to f t ds r (digit-rest d ds h) k)

digits-gone : (ds r : List ℕ) → T (each is_digit ds) → bytes_to Old 5 (ds ++ r) ≡ bytes_to Old 5 r
digits-gone [] r h = refl
digits-gone (d ∷ ds) r h = plain-gone d (ds ++ r) (digit-plain d ds h) ∙ digits-gone ds r (digit-rest d ds h)

digits-other : (n t : ℕ) (ds r : List ℕ) → T (each is_digit ds) → t ≤ 4 → other_from n t (ds ++ r) ≡ other_from n t r
digits-other n t [] r h k = refl
digits-other n t (d ∷ ds) r h k = plain_other n t d (ds ++ r) (digit-plain d ds h) k ∙ digits-other n t ds r (digit-rest d ds h) k

-- ---- a tab

tab-tabs : (t : ℕ) → tabs_after t TAB ≡ t + 1
unfolding tabs_after pick
tab-tabs t = refl

tab-to : (f : Form) (t : ℕ) (r : List ℕ) → t < 4 → bytes_to f t (TAB ∷ r) ≡ TAB ∷ bytes_to f (t + 1) r
unfolding bytes_to piece_of new_piece old_piece
tab-to Old t r h =
    ap (λ (p : List ℕ). p ++ bytes_to Old (tabs_after t TAB) r) (pick-t (leb (tabs_after t TAB) 4) (TAB ∷ []) [] (le-leb (tabs_after t TAB) 4 (omega (arith, tab-tabs t))))
    ∙ ap (λ (u : ℕ). TAB ∷ bytes_to Old u r) (tab-tabs t)
tab-to New t r h =
    ap (λ (p : List ℕ). p ++ bytes_to New (tabs_after t TAB) r) (pick-f (eqb TAB LF && eqb t 4) (TAB ∷ 48 ∷ LF ∷ []) (TAB ∷ []) refl)
    ∙ ap (λ (u : ℕ). TAB ∷ bytes_to New u r) (tab-tabs t)

tab-other : (n t : ℕ) (r : List ℕ) → t ≤ 4 → other_from n t (TAB ∷ r) ≡ other_from n (t + 1) r
unfolding other_from line_after pick
tab-other n t r h = pick-f _ _ _ (not_five t TAB h) ∙ ap (λ (u : ℕ). other_from n u r) (tab-tabs t)

-- ---- a field

as-field : (v : ℕ) (vs r : List ℕ) → fields_text (v ∷ vs) ++ r ≡ TAB ∷ (decimal v ++ (fields_text vs ++ r))
unfolding fields_text
as-field v vs r = ap (λ (l : List ℕ). TAB ∷ l) (append_assoc (decimal v) (fields_text vs) r)

-- one of the first four stays
field-to : (f : Form) (t v : ℕ) (vs ws r q : List ℕ) → t < 4 → bytes_to f (t + 1) (fields_text vs ++ r) ≡ fields_text ws ++ q → bytes_to f t (fields_text (v ∷ vs) ++ r) ≡ fields_text (v ∷ ws) ++ q
field-to f t v vs ws r q h e =
    ap (bytes_to f t) (as-field v vs r)
    ∙ tab-to f t (decimal v ++ (fields_text vs ++ r)) h
    ∙ ap (λ (l : List ℕ). TAB ∷ l) (digits-to f (t + 1) (decimal v) (fields_text vs ++ r) (decimal-digits v) (omega arith) ∙ ap (λ (l : List ℕ). decimal v ++ l) e)
    ∙ sym (as-field v ws q)

field-other : (n t v : ℕ) (vs r : List ℕ) → t < 4 → other_from n t (fields_text (v ∷ vs) ++ r) ≡ other_from n (t + 1) (fields_text vs ++ r)
field-other n t v vs r h =
    ap (other_from n t) (as-field v vs r)
    ∙ tab-other n t (decimal v ++ (fields_text vs ++ r)) (omega arith)
    ∙ digits-other n (t + 1) (decimal v) (fields_text vs ++ r) (decimal-digits v) (omega arith)

-- ---- the end of a line

-- a dose gains the field 0
end-new : (r : List ℕ) → bytes_to New 4 (fields_text [] ++ r) ≡ fields_text (0 ∷ []) ++ bytes_to New 0 r
unfolding bytes_to piece_of new_piece tabs_after pick fields_text decimal digits_of glyph
end-new r = refl

-- or loses its fifth
fifth-tab : (r : List ℕ) → bytes_to Old 4 (TAB ∷ r) ≡ bytes_to Old 5 r
unfolding bytes_to piece_of old_piece tabs_after pick
fifth-tab r = refl

fifth-end : (r : List ℕ) → bytes_to Old 5 (fields_text [] ++ r) ≡ fields_text [] ++ bytes_to Old 0 r
unfolding bytes_to piece_of old_piece tabs_after pick fields_text
fifth-end r = refl

end-old : (p : ℕ) (r : List ℕ) → bytes_to Old 4 (fields_text (p ∷ []) ++ r) ≡ fields_text [] ++ bytes_to Old 0 r
end-old p r =
    ap (bytes_to Old 4) (as-field p [] r)
    ∙ fifth-tab (decimal p ++ (fields_text [] ++ r))
    ∙ digits-gone (decimal p) (fields_text [] ++ r) (decimal-digits p)
    ∙ fifth-end r

-- an H line stays
end_on : (f : Form) (r : List ℕ) → bytes_to f 1 (fields_text [] ++ r) ≡ fields_text [] ++ bytes_to f 0 r
unfolding bytes_to piece_of old_piece new_piece tabs_after pick fields_text
end_on Old r = refl
end_on New r = refl

on-other : (n : ℕ) (r : List ℕ) → other_from n 1 (fields_text [] ++ r) ≡ other_from (suc n) 0 r
unfolding other_from is_other line_after tabs_after pick fields_text
on-other n r = refl

-- product 0 is passed over
zero-other : (n : ℕ) (r : List ℕ) → other_from n 4 (fields_text (0 ∷ []) ++ r) ≡ other_from (suc n) 0 r
unfolding other_from is_other line_after tabs_after pick fields_text decimal digits_of glyph
zero-other n r = refl

-- another is seen at its first digit
digit-other : (n : ℕ) (ds r : List ℕ) → 1 ≤ length ds → 48 < get_or ds 0 0 → other_from n 5 (ds ++ r) ≡ n
unfolding other_from is_other
digit-other n [] r h k = absurd (omega arith)
digit-other n (d ∷ ds) r h k =
    let x : d ≡ LF → ⊥ = λ e. omega arith in
    let y : d ≡ 48 → ⊥ = λ e. omega arith in
    pick-t _ _ _ (rw (ne_eqb _ _ x, ne_eqb _ _ y))

one-other : (n p : ℕ) (r : List ℕ) → 1 ≤ p → other_from n 4 (fields_text (p ∷ []) ++ r) ≡ n
one-other n p r h =
    ap (other_from n 4) (as-field p [] r)
    ∙ tab-other n 4 (decimal p ++ (fields_text [] ++ r)) (omega arith)
    ∙ digit-other n (decimal p) (fields_text [] ++ r) (decimal-some p) (decimal-first p h)

-- ---- a line

line-new : (l : Line) (r : List ℕ) → product_in l ≡ 0 → bytes_to New 0 (text_of Old l ++ r) ≡ text_of New l ++ bytes_to New 0 r
unfolding text_of dose_fields product_in
line-new (Dose h c a s p) r z =
    let q = bytes_to New 0 r in
    plain-to New 0 letter_d (fields_text (h ∷ c ∷ a ∷ s ∷ []) ++ r) (omega arith) (omega arith)
    ∙ ap (λ (l : List ℕ). letter_d ∷ l)
    (field-to New 0 h (c ∷ a ∷ s ∷ []) (c ∷ a ∷ s ∷ 0 ∷ []) r q (omega arith)
    (field-to New 1 c (a ∷ s ∷ []) (a ∷ s ∷ 0 ∷ []) r q (omega arith)
    (field-to New 2 a (s ∷ []) (s ∷ 0 ∷ []) r q (omega arith)
    (field-to New 3 s [] (0 ∷ []) r q (omega arith) (end-new r)))))
    ∙ ap (λ (x : ℕ). letter_d ∷ (fields_text (h ∷ c ∷ a ∷ s ∷ x ∷ []) ++ q)) (sym z)
line-new (On h) r z =
    plain-to New 0 letter_h (fields_text (h ∷ []) ++ r) (omega arith) (omega arith)
    ∙ ap (λ (l : List ℕ). letter_h ∷ l) (field-to New 0 h [] [] r (bytes_to New 0 r) (omega arith) (end_on New r))

line-old : (l : Line) (r : List ℕ) → bytes_to Old 0 (text_of New l ++ r) ≡ text_of Old l ++ bytes_to Old 0 r
unfolding text_of dose_fields
line-old (Dose h c a s p) r =
    let q = bytes_to Old 0 r in
    plain-to Old 0 letter_d (fields_text (h ∷ c ∷ a ∷ s ∷ p ∷ []) ++ r) (omega arith) (omega arith)
    ∙ ap (λ (l : List ℕ). letter_d ∷ l)
    (field-to Old 0 h (c ∷ a ∷ s ∷ p ∷ []) (c ∷ a ∷ s ∷ []) r q (omega arith)
    (field-to Old 1 c (a ∷ s ∷ p ∷ []) (a ∷ s ∷ []) r q (omega arith)
    (field-to Old 2 a (s ∷ p ∷ []) (s ∷ []) r q (omega arith)
    (field-to Old 3 s (p ∷ []) [] r q (omega arith) (end-old p r)))))
line-old (On h) r =
    plain-to Old 0 letter_h (fields_text (h ∷ []) ++ r) (omega arith) (omega arith)
    ∙ ap (λ (l : List ℕ). letter_h ∷ l) (field-to Old 0 h [] [] r (bytes_to Old 0 r) (omega arith) (end_on Old r))

-- a dose's first four fields tell nothing of its product
fields-other : (n h c a s p : ℕ) (r : List ℕ) → other_from n 0 (letter_d ∷ (fields_text (h ∷ c ∷ a ∷ s ∷ p ∷ []) ++ r)) ≡ other_from n 4 (fields_text (p ∷ []) ++ r)
fields-other n h c a s p r =
    plain_other n 0 letter_d (fields_text (h ∷ c ∷ a ∷ s ∷ p ∷ []) ++ r) (omega arith) (omega arith)
    ∙ field-other n 0 h (c ∷ a ∷ s ∷ p ∷ []) r (omega arith)
    ∙ field-other n 1 c (a ∷ s ∷ p ∷ []) r (omega arith)
    ∙ field-other n 2 a (s ∷ p ∷ []) r (omega arith)
    ∙ field-other n 3 s (p ∷ []) r (omega arith)

line-zero : (n : ℕ) (l : Line) (r : List ℕ) → product_in l ≡ 0 → other_from n 0 (text_of New l ++ r) ≡ other_from (suc n) 0 r
unfolding text_of dose_fields product_in
line-zero n (Dose h c a s p) r z =
    fields-other n h c a s p r ∙ ap (λ (x : ℕ). other_from n 4 (fields_text (x ∷ []) ++ r)) z ∙ zero-other n r
line-zero n (On h) r z =
    plain_other n 0 letter_h (fields_text (h ∷ []) ++ r) (omega arith) (omega arith) ∙ field-other n 0 h [] r (omega arith) ∙ on-other n r

line_other : (n : ℕ) (l : Line) (r : List ℕ) → 1 ≤ product_in l → other_from n 0 (text_of New l ++ r) ≡ n
unfolding text_of dose_fields product_in
line_other n (Dose h c a s p) r k = fields-other n h c a s p r ∙ one-other n p r k
line_other n (On h) r k = absurd (omega arith)

-- ---- all lines

pub lines_new : (ls : List Line) → Zeros ls → bytes_to New 0 (lines_text Old ls) ≡ lines_text New ls
unfolding lines_text bytes_to
lines_new [] z = refl
lines_new (l ∷ ls) z = line-new l (lines_text Old ls) z.0 ∙ ap (λ (t : List ℕ). text_of New l ++ t) (lines_new ls z.1)

pub lines-old : (ls : List Line) → bytes_to Old 0 (lines_text New ls) ≡ lines_text Old ls
unfolding lines_text bytes_to
lines-old [] = refl
lines-old (l ∷ ls) = line-old l (lines_text New ls) ∙ ap (λ (t : List ℕ). text_of Old l ++ t) (lines-old ls)

-- R18 is the first line whose product is other than 0
pub lines-back : {X : Type 0} (n : ℕ) (ls : List Line) (next : Answer X) → 1 ≤ n
    → goes_back n ls next ≡ pick (eqb (other_from n 0 (lines_text New ls)) 0) next (refused R18 (other_from n 0 (lines_text New ls) ∷ []))
unfolding lines_text goes_back other_from
lines-back n [] next h = sym (pick-t _ _ _ refl)
lines-back {X} n (l ∷ ls) next h = go (lines-back (suc n) ls next (omega arith)) (eqb (product_in l) 0) refl
  where
    some : (p : ℕ) → (p ≡ 0 → ⊥) → 1 ≤ p
    some zero f = absurd (f refl)
    some (suc p) f = omega arith

    told-by : ℕ → Answer X
    told-by o = pick (eqb o 0) next (refused R18 (o ∷ []))

    go : goes_back (suc n) ls next ≡ told-by (other_from (suc n) 0 (lines_text New ls)) → (b : Bool) → eqb (product_in l) 0 ≡ b → pick b (goes_back (suc n) ls next) (refused R18 (n ∷ [])) ≡ told-by (other_from n 0 (text_of New l ++ lines_text New ls))
    go again true q =
        pick-t true _ _ refl
        ∙ again
        ∙ sym (ap told-by (line-zero n l (lines_text New ls) (eqb-true _ _ q)))
    go again false q =
        let k : 1 ≤ product_in l = some (product_in l) (eqb-false _ _ q) in
        let x : n ≡ 0 → ⊥ = λ e. omega arith in
        pick-f false _ _ refl
        ∙ sym (pick-f (eqb n 0) next (refused R18 (n ∷ [])) (ne_eqb _ _ x))
        ∙ sym (ap told-by (line_other n l (lines_text New ls) k))

-- ---- one byte more

pub rest_more : (f : Form) (t i : ℕ) (s : List ℕ) → i < length s → bytes_to f t (drop i s) ≡ piece_of f t (get_or s i 0) ++ bytes_to f (tabs_after t (get_or s i 0)) (drop (i + 1) s)
unfolding bytes_to
rest_more f t i s h = ap (bytes_to f t) (drop-cons s i 0 h) ∙ ap (λ (j : ℕ). piece_of f t (get_or s i 0) ++ bytes_to f (tabs_after t (get_or s i 0)) (drop j s)) (sym (add-one i))

pub rest-none : (f : Form) (t i : ℕ) (s : List ℕ) → length s ≤ i → bytes_to f t (drop i s) ≡ []
unfolding bytes_to
rest-none f t i s h = ap (bytes_to f t) (drop_of_length-le s {i = i} h)

pub other-more : (n t i : ℕ) (s : List ℕ) → i < length s → is_other t (get_or s i 0) ≡ false
    → other_from n t (drop i s) ≡ other_from (line_after n (get_or s i 0)) (tabs_after t (get_or s i 0)) (drop (i + 1) s)
unfolding other_from
other-more n t i s h e = ap (other_from n t) (drop-cons s i 0 h) ∙ pick-f _ _ _ e ∙ ap (λ (j : ℕ). other_from (line_after n (get_or s i 0)) (tabs_after t (get_or s i 0)) (drop j s)) (sym (add-one i))

pub other-here : (n t i : ℕ) (s : List ℕ) → i < length s → is_other t (get_or s i 0) ≡ true → other_from n t (drop i s) ≡ n
unfolding other_from
other-here n t i s h e = ap (other_from n t) (drop-cons s i 0 h) ∙ pick-t _ _ _ e

pub other_none : (n t i : ℕ) (s : List ℕ) → length s ≤ i → other_from n t (drop i s) ≡ 0
unfolding other_from
other_none n t i s h = ap (other_from n t) (drop_of_length-le s {i = i} h)

pub tabs-most : (t b : ℕ) → tabs_after t b ≤ t + 1
unfolding tabs_after
tabs-most t b = pick_all (λ (u : ℕ). u ≤ t + 1) (eqb b LF) (omega arith) (pick_all (λ (u : ℕ). u ≤ t + 1) (eqb b TAB) (omega arith) (omega arith))

pub line-most : (n b : ℕ) → line_after n b ≤ n + 1
unfolding line_after
line-most n b = pick_all (λ (u : ℕ). u ≤ n + 1) (eqb b LF) (omega arith) (omega arith)

pub line-least : (n b : ℕ) → n ≤ line_after n b
unfolding line_after
line-least n b = pick_all (λ (u : ℕ). n ≤ u) (eqb b LF) (omega arith) (omega arith)

pub piece-most : (f : Form) (t b : ℕ) → length (piece_of f t b) ≤ 3
unfolding piece_of old_piece new_piece
piece-most Old t b = pick_all (λ (l : List ℕ). length l ≤ 3) (leb (tabs_after t b) 4) (omega arith) (omega arith)
piece-most New t b = pick_all (λ (l : List ℕ). length l ≤ 3) (eqb b LF && eqb t 4) (omega arith) (omega arith)

-- a byte becomes at most three
pub bytes_most : (f : Form) (t : ℕ) (l : List ℕ) → length (bytes_to f t l) ≤ 3 * length l
unfolding bytes_to
bytes_most f t [] = omega arith
bytes_most f t (b ∷ bs) = omega (arith, piece-most f t b, bytes_most f (tabs_after t b) bs, length-append (piece_of f t b) (bytes_to f (tabs_after t b) bs))

pub head-most : (f : Form) → length (head_text f) ≤ 4
unfolding head_text version_text
head-most Old = omega arith
head-most New = omega arith
