-- A line's fields, one by one: what one field more leaves to read, and what a letter asks for. Assumes nothing.
use Rattle.std.specs.Prelude.{Some, None, ◌≡◌, refl, Bool, true, false, List, [], ◌∷◌, ◌++◌, ◌⊎◌, ℕ, ◌+◌, ◌≤◌, ◌<◌, eqb, length, get_or, drop, take, set}
use Rattle.std.proofs.Common.{sym, ap, ◌∙◌, subst, inl, inr, arith, add-one, lit≤, length-set, length-take, drop_of_length-le, drop-cons, get_or-take, take-suc-set, eq-eqb, ne_eqb, eqb-true}
use Rattle.std.proofs.Math.Decide.{dec_lt}
use Rattle.std.proofs.Math.ListN.{get_or-eq_default}
use Rattle.std.proofs.lemmas.Bool.{eqb-false}
use Rattle.laws.specs.Pick.{pick, pick-t, pick-f, pick-map, pick_all}
use Rattle.laws.specs.Decimal.{Parsed, good, bad, number_at}
use Rattle.text.specs.Scan.{Num, TAB, LF, expect, on_good, Scans, field_at, place_after}
use Rattle.text.specs.ScanLaws.{byte_inside, from_place, expect-hit, expect-miss}
use Rattle.journal.specs.Line.{letter_d, letter_h, most_of_d, most_of_h, fields_at, dose_from, on_from, line_of}
use Rattle.journal.specs.declared.Form.{Form}
use Rattle.journal.specs.declared.Form.TheVariants.{Old, New}
use Rattle.journal.specs.LineLaws.{LineStands, stands_at}
use Rattle.journal.specs.Fields.{most_of, fields_of_d, fields_after, product_from, line_from}
use Rattle.journal.specs.declared.Line.{Line}
use Rattle.journal.specs.declared.Line.TheVariants.{On}

fields-step : (m : ℕ) (ms got l : List ℕ) → fields_at (m ∷ ms) got l ≡ on_good (field_at m l) (λ v rest. fields_at ms (got ++ v ∷ []) rest)
unfolding fields_at field_at expect on_good
fields-step m ms got [] = refl
fields-step m ms got (x ∷ xs) = sym (pick-map (λ (p : Parsed ℕ). on_good p (λ v rest. fields_at ms (got ++ v ∷ []) rest)) (eqb x TAB) (number_at m xs) bad)

-- a field that was read, and one that was not
fields-good : (s : List ℕ) (at m : ℕ) (ms got : List ℕ) {r : Num} {v p : ℕ} → Scans s (field_at m (drop at s)) r → r ≡ Some (v, p)
    → fields_at (m ∷ ms) got (drop at s) ≡ fields_at ms (got ++ v ∷ []) (drop p s)
unfolding on_good
fields-good s at m ms got q e = fields-step m ms got (drop at s) ∙ rw (q.reads, e)

fields-bad : (s : List ℕ) (at m : ℕ) (ms got : List ℕ) {r : Num} → Scans s (field_at m (drop at s)) r → r ≡ None → fields_at (m ∷ ms) got (drop at s) ≡ bad
unfolding on_good
fields-bad s at m ms got q e = fields-step m ms got (drop at s) ∙ rw (q.reads, e)

-- after the last field its LF
fields-end : {X : Type 0} (f : List ℕ → X) (got l : List ℕ) → on_good (fields_at [] got l) (λ vs rest. good (f vs) rest) ≡ expect LF l (λ rest. good (f got) rest)
unfolding fields_at expect on_good
fields-end f got [] = refl
fields-end f got (x ∷ xs) = pick-map (λ (p : Parsed (List ℕ)). on_good p (λ vs rest. good (f vs) rest)) (eqb x LF) (good got xs) bad

-- what a letter asks for
line-D : (f : Form) (s : List ℕ) (at : ℕ) → get_or s at 0 ≡ letter_d → line_of f (drop at s) ≡ on_good (fields_at (most_of_d f) [] (drop (at + 1) s)) (λ vs rest. good (dose_from f vs) rest)
unfolding line_of
line-D f s at e =
    from_place (λ l. line_of f l ≡ on_good (fields_at (most_of_d f) [] (drop (at + 1) s)) (λ vs rest. good (dose_from f vs) rest)) s at
    (λ h. pick-t _ _ _ (eq-eqb _ _ e)) (λ z. absurd (omega arith))

line-H : (f : Form) (s : List ℕ) (at : ℕ) → get_or s at 0 ≡ letter_h → line_of f (drop at s) ≡ on_good (fields_at most_of_h [] (drop (at + 1) s)) (λ vs rest. good (on_from vs) rest)
unfolding line_of
line-H f s at e =
    let n : get_or s at 0 ≡ letter_d → ⊥ = λ d. omega arith in
    from_place (λ l. line_of f l ≡ on_good (fields_at most_of_h [] (drop (at + 1) s)) (λ vs rest. good (on_from vs) rest)) s at
    (λ h. pick-f _ _ _ (ne_eqb _ _ n) ∙ pick-t _ _ _ (eq-eqb _ _ e)) (λ z. absurd (omega arith))

line-none : (f : Form) (s : List ℕ) (at : ℕ) → (get_or s at 0 ≡ letter_d → ⊥) → (get_or s at 0 ≡ letter_h → ⊥) → line_of f (drop at s) ≡ bad
unfolding line_of
line-none f s at d h = from_place (λ l. line_of f l ≡ bad) s at (λ l. pick-f _ _ _ (ne_eqb _ _ d) ∙ pick-f _ _ _ (ne_eqb _ _ h)) (λ z. refl)

most-five : (f : Form) (b : ℕ) → fields_after f b ≤ 5
unfolding fields_after fields_of_d
most-five f b = pick_all (λ (n : ℕ). n ≤ 5) (eqb b letter_d) (few f) (pick_all (λ (n : ℕ). n ≤ 5) (eqb b letter_h) (lit≤ tt) (lit≤ tt))
  where
    few : (f : Form) → fields_of_d f ≤ 5
    few Old = lit≤ tt
    few New = lit≤ tt

length_most : length most_of ≡ 5
unfolding most_of
length_most = refl

next-most : (n k : ℕ) → k < n → n ≤ 5 → drop k (take n most_of) ≡ get_or most_of k 0 ∷ drop (k + 1) (take n most_of)
next-most n k h b = rw (add-one, drop-cons (take n most_of) k 0 (inside n k h b), get_or-take n most_of k 0 h)
  where
    inside : (n k : ℕ) → k < n → n ≤ 5 → k < length (take n most_of)
    inside n k h b = rw (length-take n most_of) (omega (arith, length_most))

fields-turn : (s got : List ℕ) (n k at : ℕ) {r : Num} {v p : ℕ} → k < n → n ≤ 5 → k < length got → Scans s (field_at (get_or most_of k 0) (drop at s)) r → r ≡ Some (v, p)
    → fields_at (drop k (take n most_of)) (take k got) (drop at s) ≡ fields_at (drop (k + 1) (take n most_of)) (take (k + 1) (set got k v)) (drop p s)
fields-turn s got n k at {r} {v} {p} h b i q e =
    ap (λ (ms : List ℕ). fields_at ms (take k got) (drop at s)) (next-most n k h b)
    ∙ fields-good s at (get_or most_of k 0) (drop (k + 1) (take n most_of)) (take k got) q e
    ∙ ap (λ (vs : List ℕ). fields_at (drop (k + 1) (take n most_of)) vs (drop p s)) (sym (ap (λ (j : ℕ). take j (set got k v)) (add-one k) ∙ take-suc-set got k v i))

fields-stop : (s got : List ℕ) (n k at : ℕ) {r : Num} → k < n → n ≤ 5 → Scans s (field_at (get_or most_of k 0) (drop at s)) r → r ≡ None
    → fields_at (drop k (take n most_of)) got (drop at s) ≡ bad
fields-stop s got n k at h b q e =
    ap (λ (ms : List ℕ). fields_at ms got (drop at s)) (next-most n k h b) ∙ fields-bad s at (get_or most_of k 0) (drop (k + 1) (take n most_of)) got q e

no_more : (n k : ℕ) → n ≤ k → drop k (take n most_of) ≡ []
no_more n k h = drop_of_length-le (take n most_of) {i = k} (rw (length-take n most_of) (omega arith))

-- the letter asks for n fields, and they make a line
record Asks (f : Form) (s : List ℕ) (at n : ℕ) : Type 0 where
  none : n ≡ 0 → line_of f (drop at s) ≡ bad
  some : 0 < n → line_of f (drop at s) ≡ on_good (fields_at (take n most_of) [] (drop (at + 1) s)) (λ vs rest. good (line_from n vs) rest)

-- as many fields as a D line has make a dose
dose-fields : (f : Form) (l : List ℕ) → on_good (fields_at (most_of_d f) [] l) (λ vs rest. good (dose_from f vs) rest) ≡ on_good (fields_at (take (fields_of_d f) most_of) [] l) (λ vs rest. good (line_from (fields_of_d f) vs) rest)
unfolding most_of_d most_of fields_of_d dose_from line_from product_from pick
dose-fields Old l = refl
dose-fields New l = refl

some-fields : (f : Form) → 0 < fields_of_d f
unfolding fields_of_d
some-fields Old = omega arith
some-fields New = omega arith

asks : (f : Form) (s : List ℕ) (at n : ℕ) → n ≡ fields_after f (get_or s at 0) → Asks f s at n
unfolding fields_after line_from pick most_of most_of_h
asks f s at n q = go (eqb (get_or s at 0) letter_d) (eqb (get_or s at 0) letter_h) refl refl q
  where
    go : (x y : Bool) → eqb (get_or s at 0) letter_d ≡ x → eqb (get_or s at 0) letter_h ≡ y → n ≡ pick x (fields_of_d f) (pick y 1 0) → Asks f s at n
    go true y d h e = rw e (record { none = λ z. absurd (omega (arith, some-fields f)); some = λ z. line-D f s at (eqb-true _ _ d) ∙ dose-fields f (drop (at + 1) s) })
    go false true d h e = rw e (record { none = λ z. absurd (omega arith); some = λ z. line-H f s at (eqb-true _ _ h) })
    go false false d h e = rw e (record { none = λ z. line-none f s at (eqb-false _ _ d) (eqb-false _ _ h); some = λ z. absurd (omega arith) })

-- a letter asks for one field, or four, or five
abbrev Asked : ℕ → Type 0
Asked n = (n ≡ 0) ⊎ ((n ≡ 1) ⊎ ((n ≡ 4) ⊎ (n ≡ 5)))

fields-some : (f : Form) (b : ℕ) → Asked (fields_after f b)
unfolding fields_after fields_of_d
fields-some f b = pick_all Asked (eqb b letter_d) (dose f) (pick_all Asked (eqb b letter_h) (inr (inl refl)) (inl refl))
  where
    dose : (f : Form) → Asked (fields_of_d f)
    dose Old = inr (inr (inl refl))
    dose New = inr (inr (inr refl))

-- only the first n values make the line
first-values : (n : ℕ) (vs : List ℕ) → 0 < n → Asked n → line_from n (take n vs) ≡ line_from n vs
unfolding line_from product_from on_from pick
first-values n vs h (inl e) = absurd (omega arith)
first-values n vs h (inr (inl e)) = rw e (ap (λ (v : ℕ). On v) (get_or-take 1 vs 0 0 (omega arith)))
first-values n vs h (inr (inr (inl e))) =
    let at : (i : ℕ) → i < 4 → get_or (take 4 vs) i 0 ≡ get_or vs i 0 = λ i l. get_or-take 4 vs i 0 l in
    rw e (rw (at 0 (omega arith), at 1 (omega arith), at 2 (omega arith), at 3 (omega arith)))
first-values n vs h (inr (inr (inr e))) =
    let at : (i : ℕ) → i < 5 → get_or (take 5 vs) i 0 ≡ get_or vs i 0 = λ i l. get_or-take 5 vs i 0 l in
    rw e (rw (at 0 (omega arith), at 1 (omega arith), at 2 (omega arith), at 3 (omega arith), at 4 (omega arith)))

-- the fields read, and the byte behind them
line-broken : (f : Form) (s : List ℕ) (at n : ℕ) → n ≡ fields_after f (get_or s at 0) → 0 < n → fields_at (take n most_of) [] (drop (at + 1) s) ≡ bad → line_of f (drop at s) ≡ bad
unfolding on_good
line-broken f s at n q h e = (asks f s at n q).some h ∙ rw e

line-ends : (f : Form) (s got : List ℕ) (at n p : ℕ) → n ≡ fields_after f (get_or s at 0) → 0 < n → fields_at [] (take n got) (drop p s) ≡ fields_at (take n most_of) [] (drop (at + 1) s)
    → line_of f (drop at s) ≡ expect LF (drop p s) (λ rest. good (line_from n got) rest)
line-ends f s got at n p q h e =
    (asks f s at n q).some h
    ∙ ap (λ (f : Parsed (List ℕ)). on_good f (λ vs rest. good (line_from n vs) rest)) (sym e)
    ∙ fields-end (line_from n) (take n got) (drop p s)
    ∙ ap (λ (l : Line). expect LF (drop p s) (λ rest. good l rest)) (first-values n got h (subst Asked (sym q) (fields-some f (get_or s at 0))))

line-torn : (f : Form) (s got : List ℕ) (at n p : ℕ) → n ≡ fields_after f (get_or s at 0) → 0 < n → fields_at [] (take n got) (drop p s) ≡ fields_at (take n most_of) [] (drop (at + 1) s)
    → (get_or s p 0 ≡ LF → ⊥) → line_of f (drop at s) ≡ bad
line-torn f s got at n p q h e g = line-ends f s got at n p q h e ∙ expect-miss s p LF (λ rest. good (line_from n got) rest) g

line_read : (f : Form) (s got : List ℕ) (at n p : ℕ) → n ≡ fields_after f (get_or s at 0) → 0 < n → fields_at [] (take n got) (drop p s) ≡ fields_at (take n most_of) [] (drop (at + 1) s)
    → get_or s p 0 ≡ LF → line_of f (drop at s) ≡ good (line_from n got) (drop (p + 1) s)
line_read f s got at n p q h e g = line-ends f s got at n p q h e ∙ expect-hit s p LF (λ rest. good (line_from n got) rest) (lit≤ tt) g

-- ---- the fields of the line at a place, read one by one

-- a letter asks for at most 5 fields
fields-few : (f : Form) (s : List ℕ) (at n : ℕ) → n ≡ fields_after f (get_or s at 0) → n ≤ 5
fields-few f s at n q = subst (λ (m : ℕ). m ≤ 5) (sym q) (most-five f (get_or s at 0))

-- k of the n fields of the line at `at` are read: their values stand in got, and p is the place after them
pub record Fielded (s : List ℕ) (at n : ℕ) (got : List ℕ) (k p : ℕ) : Type 0 where
  pub some : 0 < n
  pub most : n ≤ 5
  pub few : k ≤ n
  pub inside : p ≤ length s
  pub size : length got ≡ 5
  pub left : fields_at (drop k (take n most_of)) (take k got) (drop p s) ≡ fields_at (take n most_of) [] (drop (at + 1) s)

-- no letter begins a line
pub letter-none : (f : Form) (s : List ℕ) (at n : ℕ) → n ≡ fields_after f (get_or s at 0) → n ≡ 0 → line_of f (drop at s) ≡ bad
letter-none f s at n q z = (asks f s at n q).none z

-- a letter that begins one is one of the bytes
pub letter-inside : (f : Form) (s : List ℕ) (at n : ℕ) → n ≡ fields_after f (get_or s at 0) → (n ≡ 0 → ⊥) → at < length s
unfolding fields_after pick
letter-inside f s at n q z =
    elim (dec_lt at (length s)) [
      | yes l ↦ l
      | no l ↦ absurd (z (q ∙ ap (fields_after f) (get_or-eq_default s 0 (omega arith))))
    ]

-- behind the letter
pub fielded-none : (f : Form) (s : List ℕ) (at n : ℕ) (got : List ℕ) → n ≡ fields_after f (get_or s at 0) → (n ≡ 0 → ⊥) → length got ≡ 5 → Fielded s at n got 0 (at + 1)
fielded-none f s at n got q z g = let h = letter-inside f s at n q z in record { some = omega (arith, z); most = fields-few f s at n q; few = omega arith; inside = omega arith; size = g; left = refl }

module _ {s : List ℕ} {at n : ℕ} {got : List ℕ} {k p : ℕ} (w : Fielded s at n got k p) where
  -- one field more
  pub fielded-more : {r : Num} {v q : ℕ} → k < n → Scans s (field_at (get_or most_of k 0) (drop p s)) r → r ≡ Some (v, q) → Fielded s at n (set got k v) (k + 1) q
  fielded-more {r} {v} {q} h c e =
      record {
        some = w.some;
        most = w.most;
        few = omega arith;
        inside = subst (λ (x : Num). place_after x ≤ length s) e c.inside;
        size = length-set got k v ∙ w.size;
        left = sym (fields-turn s got n k p h w.most (omega (arith, w.size)) c e) ∙ w.left;
      }

  -- every field is read
  all_read : n ≤ k → fields_at [] (take n got) (drop p s) ≡ fields_at (take n most_of) [] (drop (at + 1) s)
  all_read h =
      let e : k ≡ n = omega (arith, w.few) in
      ap (λ (ms : List ℕ). fields_at ms (take n got) (drop p s)) (sym (no_more n k h))
      ∙ ap (λ (j : ℕ). fields_at (drop k (take n most_of)) (take j got) (drop p s)) (sym e)
      ∙ w.left

  module _ (f : Form) (asked : n ≡ fields_after f (get_or s at 0)) where
    -- a field that is none
    pub fielded-bad : {r : Num} → k < n → Scans s (field_at (get_or most_of k 0) (drop p s)) r → r ≡ None → line_of f (drop at s) ≡ bad
    fielded-bad h c e = line-broken f s at n asked w.some (sym w.left ∙ fields-stop s (take k got) n k p h w.most c e)

    -- no LF behind the last
    pub fielded-torn : n ≤ k → (get_or s p 0 ≡ LF → ⊥) → line_of f (drop at s) ≡ bad
    fielded-torn h e = line-torn f s got at n p asked w.some (all_read h) e

    -- its LF behind the last: they make the line
    pub fielded-line : n ≤ k → get_or s p 0 ≡ LF → LineStands f s at (line_from n got) (p + 1)
    fielded-line h e = stands_at f s at (line_from n got) (p + 1) (line_read f s got at n p asked w.some (all_read h) e) (omega (arith, byte_inside s p (omega arith)))
