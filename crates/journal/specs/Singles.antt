-- A line by itself and the V line: what is written is read back, and nothing else is read as it. Assumes nothing.
use Rattle.std.specs.Prelude.{◌≡◌, refl, Bool, true, false, ◌&&◌, List, [], ◌∷◌, ◌++◌, ℕ, ◌≤◌, eqb, length, drop}
use Rattle.std.proofs.Common.{sym, ap, ◌∙◌, append-nil, arith, eqb-true}
use Rattle.laws.specs.Pick.{pick, pick-f}
use Rattle.laws.specs.Bools.{and_left, and_right}
use Rattle.laws.specs.Whole.{false-true}
use Rattle.laws.specs.Decimal.{Parsed, good, bad}
use Rattle.paper.specs.Answer.{Answer, done}
use Rattle.paper.specs.AnswerLaws.{refused-done}
use Rattle.text.specs.Scan.{TAB, LF}
use Rattle.journal.specs.Line.{letter_v, version_text, text_of, in_range, line_of, versioned, is_version, Single, version, dated, whole, one_line}
use Rattle.journal.specs.LineLaws.{read-text, text-only}
use Rattle.journal.specs.declared.Form.{Form}
use Rattle.journal.specs.declared.Form.TheVariants.{Old, New}
use Rattle.journal.specs.declared.Line.{Line}
use Rattle.journal.specs.declared.Line.TheVariants.{Dose, On}

-- ---- the V line

-- bytes that begin with it are it and what follows
pub versioned-text : (s : List ℕ) → versioned s ≡ true → s ≡ version_text ++ drop 4 s
unfolding versioned version_text
versioned-text [] e = false-true e
versioned-text (a ∷ []) e = false-true (and_right (eqb a letter_v) _ e)
versioned-text (a ∷ b ∷ []) e = false-true (and_right (eqb b TAB) _ (and_right (eqb a letter_v) _ e))
versioned-text (a ∷ b ∷ c ∷ []) e = false-true (and_right (eqb c 50) _ (and_right (eqb b TAB) _ (and_right (eqb a letter_v) _ e)))
versioned-text (a ∷ b ∷ c ∷ d ∷ rest) e =
    let e1 = and_right (eqb a letter_v) _ e in
    let e2 = and_right (eqb b TAB) _ e1 in
    let p : a ≡ letter_v = eqb-true _ _ (and_left _ _ e) in
    let q : b ≡ TAB = eqb-true _ _ (and_left _ _ e1) in
    let r : c ≡ 50 = eqb-true _ _ (and_left _ _ e2) in
    let t : d ≡ LF = eqb-true _ _ (and_right (eqb c 50) _ e2) in
    rw (p, q, r, t)

pub text-versioned : (rest : List ℕ) → versioned (version_text ++ rest) ≡ true
unfolding versioned version_text
text-versioned rest = refl

pub versioned-long : (s : List ℕ) → versioned s ≡ true → 4 ≤ length s
unfolding version_text
versioned-long s e = omega (arith, ap length (versioned-text s e))

-- no line with an hour begins as the V line does
pub text-no-version : (f : Form) (l : Line) (rest : List ℕ) → versioned (text_of f l ++ rest) ≡ false
unfolding versioned text_of
text-no-version f (Dose h c a s p) rest = refl
text-no-version f (On h) rest = refl

pub empty-no-version : versioned [] ≡ false
unfolding versioned
empty-no-version = refl

pub line-no-version : (f : Form) (s : List ℕ) (l : Line) (rest : List ℕ) → line_of f s ≡ good l rest → versioned s ≡ false
line-no-version f s l rest e = ap versioned (text-only f s l rest e).text ∙ text-no-version f l rest

-- ---- a line by itself

no-and : (b c : Bool) → c ≡ false → (b && c) ≡ false
no-and true c e = e
no-and false c e = refl

-- what is written is read back
pub one-text : (f : Form) (l : Line) → in_range f l ≡ true → one_line f (text_of f l) ≡ done (dated l)
unfolding one_line whole is_version
one-text Old l e = ap (λ (s : List ℕ). whole (line_of Old s)) (sym (append-nil (text_of Old l))) ∙ ap whole (read-text Old l [] e)
one-text New l e =
    pick-f _ _ _ (no-and (eqb (length (text_of New l)) 4) (versioned (text_of New l)) (ap versioned (sym (append-nil (text_of New l))) ∙ text-no-version New l []))
    ∙ ap (λ (s : List ℕ). whole (line_of New s)) (sym (append-nil (text_of New l)))
    ∙ ap whole (read-text New l [] e)

pub one-version : one_line New version_text ≡ done version
unfolding one_line is_version versioned version_text pick
one-version = refl

-- and nothing else is a line by itself
dated-one : {x y : Line} → ◌≡◌ {A = Answer Single} (done (dated x)) (done (dated y)) → x ≡ y
dated-one e = cc

version-dated : {Q : Type 0} {l : Line} → ◌≡◌ {A = Answer Single} (done version) (done (dated l)) → Q
version-dated e = let z : ◌≡◌ {A = ℕ} 0 1 = cc in absurd (omega arith)

whole-only : (f : Form) (s : List ℕ) (l : Line) → whole (line_of f s) ≡ done (dated l) → (s ≡ text_of f l) × (in_range f l ≡ true)
unfolding whole
whole-only f s l e = go (line_of f s) refl e
  where
    go : (p : Parsed Line) → line_of f s ≡ p → whole p ≡ done (dated l) → (s ≡ text_of f l) × (in_range f l ≡ true)
    go (good m []) q h =
        let g : m ≡ l = dated-one h in
        let o = text-only f s m [] q in
        (o.text ∙ append-nil (text_of f m) ∙ ap (text_of f) g, ap (in_range f) (sym g) ∙ o.range)
    go (good m (b ∷ bs)) q h = refused-done h
    go bad q h = refused-done h

pub one_only : (f : Form) (s : List ℕ) (l : Line) → one_line f s ≡ done (dated l) → (s ≡ text_of f l) × (in_range f l ≡ true)
unfolding one_line pick
one_only Old s l e = whole-only Old s l e
one_only New s l e = go (is_version s) e
  where
    go : (b : Bool) → pick b (done version) (whole (line_of New s)) ≡ done (dated l) → (s ≡ text_of New l) × (in_range New l ≡ true)
    go true h = version-dated h
    go false h = whole-only New s l h

whole-dated : {Q : Type 0} (p : Parsed Line) → whole p ≡ done version → Q
unfolding whole
whole-dated (good m []) h = version-dated (sym h)
whole-dated (good m (b ∷ bs)) h = refused-done h
whole-dated bad h = refused-done h

empty-tail : (t : List ℕ) → length (version_text ++ t) ≡ 4 → t ≡ []
unfolding version_text
empty-tail [] e = refl
empty-tail (b ∷ bs) e = absurd (omega arith)

-- only V 2 is read as the V line, and only in the new form
pub version-only : (f : Form) (s : List ℕ) → one_line f s ≡ done version → (f ≡ New) × (s ≡ version_text)
unfolding one_line pick is_version
version-only Old s e = whole-dated (line_of Old s) e
version-only New s e = go (is_version s) refl e
  where
    go : (b : Bool) → is_version s ≡ b → pick b (done version) (whole (line_of New s)) ≡ done version → (New ≡ New) × (s ≡ version_text)
    go true q h =
        let t = versioned-text s (and_right (eqb (length s) 4) _ q) in
        let n : length s ≡ 4 = eqb-true _ _ (and_left _ _ q) in
        (refl, t ∙ ap (λ (r : List ℕ). version_text ++ r) (empty-tail (drop 4 s) (ap length (sym t) ∙ n)) ∙ append-nil version_text)
    go false q h = whole-dated (line_of New s) h
