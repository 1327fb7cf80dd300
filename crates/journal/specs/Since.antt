-- A journal without a V line is read exactly as it was before W4, with product 0. Assumes nothing.
use Rattle.std.specs.Prelude.{◌≡◌, refl, false, ◌&&◌, List, [], ◌∷◌, map, ℕ, zero, suc, eqb, ltb, length}
use Rattle.std.proofs.Common.{sym, ap, ◌∙◌}
use Rattle.laws.specs.Pick.{pick, pick-f, pick-map}
use Rattle.laws.specs.Decimal.{Parsed, good, bad}
use Rattle.paper.specs.Answer.{Answer, done, refused, fault, told}
use Rattle.paper.specs.Numbers.{R11, R12, R13}
use Rattle.text.specs.Scan.{on_good}
use Rattle.journal.specs.Line.{letter_d, letter_h, most_of_d, most_of_h, fields_at, dose_from, on_from, versioned, line_of}
use Rattle.journal.specs.Journal.{hour_in, closes, out_of_order, too_far, no_past, past_after, ordered, on_line, read_from, form_of, body_of, journal_of}
use Rattle.journal.specs.Before as B
use Rattle.journal.specs.declared.Form.TheVariants.{Old, New}
use Rattle.journal.specs.declared.Line.{Line}
use Rattle.journal.specs.declared.Line.TheVariants.{Dose, On}
use Rattle.journal.specs.declared.Past.{Past}

-- without it they are read as before with product 0: a line of before as it is now
unfoldable pub since : B.Line → Line
since (B.Dose h c a s) = Dose h c a s 0
since (B.On h) = On h

abbrev pub since-parsed : Parsed B.Line → Parsed Line
since-parsed (good l rest) = good (since l) rest
since-parsed bad = bad

dose-since : (p : Parsed (List ℕ)) → on_good p (λ vs rest. good (dose_from Old vs) rest) ≡ since-parsed (on_good p (λ vs rest. good (B.dose_from vs) rest))
unfolding on_good dose_from B.dose_from since
dose-since (good vs rest) = refl
dose-since bad = refl

on-since : (p : Parsed (List ℕ)) → on_good p (λ vs rest. good (on_from vs) rest) ≡ since-parsed (on_good p (λ vs rest. good (B.on_from vs) rest))
unfolding on_good on_from B.on_from since
on-since (good vs rest) = refl
on-since bad = refl

-- a line is read as before
pub line-as-before : (l : List ℕ) → line_of Old l ≡ since-parsed (B.line_of l)
unfolding line_of B.line_of most_of_d B.most_of_d most_of_h B.most_of_h
line-as-before [] = refl
line-as-before (b ∷ bs) =
    let d = on_good (fields_at B.most_of_d [] bs) (λ vs rest. good (B.dose_from vs) rest) in
    let h = on_good (fields_at B.most_of_h [] bs) (λ vs rest. good (B.on_from vs) rest) in
    ap (λ (x : Parsed Line). pick (eqb b letter_d) x (pick (eqb b letter_h) (on_good (fields_at most_of_h [] bs) (λ vs rest. good (on_from vs) rest)) bad)) (dose-since (fields_at B.most_of_d [] bs))
    ∙ ap (λ (x : Parsed Line). pick (eqb b letter_d) (since-parsed d) (pick (eqb b letter_h) x bad)) (on-since (fields_at B.most_of_h [] bs))
    ∙ sym (pick-map since-parsed (eqb b letter_d) d (pick (eqb b letter_h) h bad) ∙ ap (pick (eqb b letter_d) (since-parsed d)) (pick-map since-parsed (eqb b letter_h) h bad))

-- so is its order
order-as-before : (p : Past) (l : B.Line) (n : ℕ) (a : Answer (List B.Line)) → ordered p (since l) n (told (map since) a) ≡ told (map since) (B.ordered p l n a)
unfolding ordered B.ordered told since hour_in B.hour_in
order-as-before p (B.Dose h c a s) n x =
    let late = p.begun && out_of_order p.last p.closed h in
    let far = p.begun && too_far p.first h in
    sym (pick-map (told (map since)) late (refused R11 (n ∷ [])) (pick far (refused R12 (n ∷ [])) x)
    ∙ ap (pick late (refused R11 (n ∷ []))) (pick-map (told (map since)) far (refused R12 (n ∷ [])) x))
order-as-before p (B.On h) n x =
    let late = p.begun && out_of_order p.last p.closed h in
    let far = p.begun && too_far p.first h in
    sym (pick-map (told (map since)) late (refused R11 (n ∷ [])) (pick far (refused R12 (n ∷ [])) x)
    ∙ ap (pick late (refused R11 (n ∷ []))) (pick-map (told (map since)) far (refused R12 (n ∷ [])) x))

past-as-before : (p : Past) (l : B.Line) → past_after p (since l) ≡ B.past_after p l
unfolding past_after B.past_after since hour_in B.hour_in closes B.closes
past-as-before p (B.Dose h c a s) = refl
past-as-before p (B.On h) = refl

cons-since : (l : B.Line) (a : Answer (List B.Line)) → told (λ (ls : List Line). since l ∷ ls) (told (map since) a) ≡ told (map since) (told (λ (ls : List B.Line). l ∷ ls) a)
unfolding told
cons-since l (done ls) = refl
cons-since l (refused n vs) = refl
cons-since l (fault n vs) = refl

lines-as-before : (b : ℕ) (p : Past) (n : ℕ) (l : List ℕ) → read_from Old b p n l ≡ told (map since) (B.read_from b p n l)
unfolding read_from B.read_from on_line B.on_line told
lines-as-before zero p n l = refl
lines-as-before (suc b) p n [] = refl
lines-as-before (suc b) p n (x ∷ xs) =
    ap (λ (q : Parsed Line). on_line n q next) (line-as-before (x ∷ xs)) ∙ go (B.line_of (x ∷ xs)) (λ q m r. lines-as-before b q m r)
  where
    next : Line → List ℕ → Answer (List Line)
    next l rest = ordered p l n (told (λ (ls : List Line). l ∷ ls) (read_from Old b (past_after p l) (suc n) rest))

    before : B.Line → List ℕ → Answer (List B.Line)
    before l rest = B.ordered p l n (told (λ (ls : List B.Line). l ∷ ls) (B.read_from b (B.past_after p l) (suc n) rest))

    go : (q : Parsed B.Line) → ((p : Past) (m : ℕ) (r : List ℕ) → read_from Old b p m r ≡ told (map since) (B.read_from b p m r)) → on_line n (since-parsed q) next ≡ told (map since) (B.on_line n q before)
    go (good l rest) again =
        ap (λ (q : Past). ordered p (since l) n (told (λ (ls : List Line). since l ∷ ls) (read_from Old b q (suc n) rest))) (past-as-before p l)
        ∙ ap (λ (a : Answer (List Line)). ordered p (since l) n (told (λ (ls : List Line). since l ∷ ls) a)) (again (B.past_after p l) (suc n) rest)
        ∙ ap (ordered p (since l) n) (cons-since l (B.read_from b (B.past_after p l) (suc n) rest))
        ∙ order-as-before p l n (told (λ (ls : List B.Line). l ∷ ls) (B.read_from b (B.past_after p l) (suc n) rest))
    go bad again = refl

-- a journal that does not begin with the V line is read as before with product 0
pub read-as-before : (s : List ℕ) → versioned s ≡ false → journal_of s ≡ told (map since) (B.journal_of s)
unfolding journal_of B.journal_of form_of body_of told
read-as-before s e =
    ap (λ (a : Answer (List Line)). pick (ltb 65536 (length s)) (refused R13 []) a) (ap (λ (f : _). body_of f s) (pick-f (versioned s) New Old e) ∙ lines-as-before (length s) no_past 1 s)
    ∙ sym (pick-map (told (map since)) (ltb 65536 (length s)) (refused R13 []) (B.read_from (length s) no_past 1 s))
