-- What the conversion's stages tell: a journal read as one of a form, lines with no product but 0, a result that passes. Assumes nothing.
use Rattle.std.specs.Prelude.{◌≡◌, refl, Bool, true, false, List, [], ◌∷◌, ℕ, suc, ◌≤◌, ◌<◌, eqb, ltb, length}
use Rattle.std.proofs.Common.{sym, ap, ◌∙◌, arith, ltb-false, lt-ltb, le-ltb, eq-eqb, eqb-true}
use Rattle.laws.specs.Pick.{pick, pick-t, pick-f, pick_true, pick-false}
use Rattle.laws.specs.Whole.{false-true}
use Rattle.paper.specs.Answer.{Answer, done, refused, in_room}
use Rattle.paper.specs.AnswerLaws.{refused-done, passed}
use Rattle.paper.specs.Numbers.{R8, R10, R13, R18}
use Rattle.journal.specs.Line.{in_range, product_most}
use Rattle.journal.specs.LineLaws.{dose-range, dose-inside, on-range, hour-inside}
use Rattle.journal.specs.Journal.{form_of, journal_of, journal_text}
use Rattle.journal.specs.JournalLaws.{Each, each_map, journal-range, journal-text, text-form}
use Rattle.journal.specs.Order.{Ordered, ordered-journal}
use Rattle.journal.specs.declared.Form.{Form}
use Rattle.journal.specs.declared.Form.TheVariants.{Old, New}
use Rattle.journal.specs.declared.Line.{Line}
use Rattle.journal.specs.declared.Line.TheVariants.{Dose, On}
use Rattle.conversion.specs.Conversion.{is_form, read_as, product_in, goes_back, handed}

-- ---- a journal of a form

pub form-same : (f : Form) → is_form f f ≡ true
unfolding is_form
form-same Old = refl
form-same New = refl

is-form : (f g : Form) → is_form f g ≡ true → g ≡ f
unfolding is_form
is-form Old Old e = refl
is-form Old New e = false-true e
is-form New Old e = false-true e
is-form New New e = refl

-- the bytes are a journal of this form, not too long, that holds these lines
pub record Holding (f : Form) (s : List ℕ) (ls : List Line) : Type 0 where
  pub short : length s ≤ 65536
  pub form : form_of s ≡ f
  pub journal : journal_of s ≡ done ls

-- a journal is read as one of a form exactly if it is
pub read-holding : (f : Form) (s : List ℕ) (ls : List Line) → read_as f s ≡ done ls → Holding f s ls
unfolding read_as
read-holding f s ls e = go (ltb 65536 (length s)) (is_form f (form_of s)) refl refl e
  where
    go : (x y : Bool) → ltb 65536 (length s) ≡ x → is_form f (form_of s) ≡ y → pick x (refused R13 []) (pick y (journal_of s) (refused R10 (1 ∷ []))) ≡ done ls → Holding f s ls
    go true y p q h = refused-done (sym (pick_true _ _) ∙ h)
    go false true p q h = record { short = ltb-false _ _ p; form = is-form f (form_of s) q; journal = sym (pick_true _ _) ∙ sym (pick-false _ _) ∙ h }
    go false false p q h = refused-done (sym (pick-false _ _) ∙ sym (pick-false _ _) ∙ h)

pub holding-read : (f : Form) (s : List ℕ) (ls : List Line) → Holding f s ls → read_as f s ≡ done ls
unfolding read_as
holding-read f s ls h =
    pick-f _ _ _ (le-ltb 65536 (length s) h.short)
    ∙ pick-t _ _ _ (ap (is_form f) h.form ∙ form-same f)
    ∙ h.journal

-- its bytes are the text of its lines, all in range
pub holding-text : {f : Form} {s : List ℕ} {ls : List Line} → Holding f s ls → s ≡ journal_text f ls
holding-text {f} {s} {ls} h = journal-text s ls h.journal ∙ ap (λ (g : Form). journal_text g ls) h.form

pub holding-range : {f : Form} {s : List ℕ} {ls : List Line} → Holding f s ls → Each (λ l. in_range f l ≡ true) ls
holding-range {f} {s} {ls} h = each_map ls (λ l e. ap (λ (g : Form). in_range g l) (sym h.form) ∙ e) (journal-range s ls h.journal)

-- and a text of lines in order and in range is such a journal, if it is not too long
pub text-holding : (f : Form) (ls : List Line) → Ordered ls → Each (λ l. in_range f l ≡ true) ls → length (journal_text f ls) ≤ 65536 → Holding f (journal_text f ls) ls
text-holding f ls o r h = record { short = h; form = text-form f ls; journal = ordered-journal f ls o r h }

-- ---- no product but 0

abbrev pub Zeros : List Line → Type 0
Zeros ls = Each (λ l. product_in l ≡ 0) ls

-- an old line has none
pub old-zero : (l : Line) → in_range Old l ≡ true → product_in l ≡ 0
unfolding product_in product_most
old-zero (Dose h c a s p) e = omega (arith, (dose-range Old h c a s p e).4)
old-zero (On h) e = refl

-- and a line in range that has none is an old one
pub zero-old : (l : Line) → in_range New l ≡ true → product_in l ≡ 0 → in_range Old l ≡ true
unfolding product_in product_most
zero-old (Dose h c a s p) e z = let r = dose-range New h c a s p e in dose-inside Old h c a s p r.0 r.1 r.2 r.3 (omega arith)
zero-old (On h) e z = hour-inside Old h (on-range New h e)

pub zeros-old : (ls : List Line) → Each (λ l. in_range New l ≡ true) ls → Zeros ls → Each (λ l. in_range Old l ≡ true) ls
zeros-old [] r z = tt
zeros-old (l ∷ ls) r z = (zero-old l r.0 z.0, zeros-old ls r.1 z.1)

-- R18 is passed exactly where there is none
pub goes-zeros : {X : Type 0} (n : ℕ) (ls : List Line) (next : Answer X) → Zeros ls → goes_back n ls next ≡ next
unfolding goes_back
goes-zeros n [] next z = refl
goes-zeros n (l ∷ ls) next z = pick-t _ _ _ (eq-eqb _ _ z.0) ∙ goes-zeros (suc n) ls next z.1

pub goes-done : {X : Type 0} (n : ℕ) (ls : List Line) (next : Answer X) (y : X) → goes_back n ls next ≡ done y → Zeros ls × (next ≡ done y)
unfolding goes_back
goes-done n [] next y e = (tt, e)
goes-done n (l ∷ ls) next y e =
    let p = passed (eqb (product_in l) 0) (goes_back (suc n) ls next) R18 (n ∷ []) y e in
    let r = goes-done (suc n) ls next y p.1 in
    ((eqb-true _ _ p.0, r.0), r.1)

-- ---- a result that passes

pub handed-short : (room : ℕ) (text : List ℕ) → length text ≤ 65536 → handed room text ≡ in_room [] room text
unfolding handed
handed-short room text h = pick-f _ _ _ (le-ltb _ _ h)

pub handed-long : (room : ℕ) (text : List ℕ) → 65536 < length text → handed room text ≡ refused R13 []
unfolding handed
handed-long room text h = pick-t _ _ _ (lt-ltb _ _ h)

pub handed-done : (room : ℕ) (text y : List ℕ) → handed room text ≡ done y → (length text ≤ 65536) × (y ≡ text)
unfolding handed in_room
handed-done room text y e = go (ltb 65536 (length text)) refl e
  where
    go : (b : Bool) → ltb 65536 (length text) ≡ b → pick b (refused R13 []) (in_room [] room text) ≡ done y → (length text ≤ 65536) × (y ≡ text)
    go true q h = refused-done (sym (pick_true _ _) ∙ h)
    go false q h = let p = passed _ (done text) R8 [] y (sym (pick-false _ _) ∙ h) in (ltb-false _ _ q, cc p.1)
