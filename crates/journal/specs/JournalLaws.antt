-- A journal that is read: its lines one by one, their order, their text and their number. Assumes nothing.
use Rattle.std.specs.Prelude.{◌≡◌, refl, Bool, true, false, ◌&&◌, List, [], ◌∷◌, ◌++◌, ℕ, zero, suc, ◌+◌, ◌*◌, ◌≤◌, ◌<◌, length, drop}
use Rattle.std.proofs.Common.{sym, ap, ◌∙◌, subst, le_refl, arith, add-one, length-append, length-drop, lt-ltb, le-ltb}
use Rattle.std.proofs.Math.Decide.{dec_lt}
use Rattle.laws.specs.Pick.{pick, pick-t, pick-f, pick_true, pick-false, pick-map}
use Rattle.laws.specs.Decimal.{Parsed, good, bad}
use Rattle.paper.specs.Answer.{Answer, done, refused, fault, told}
use Rattle.paper.specs.AnswerLaws.{refused-done, fault-done}
use Rattle.paper.specs.Numbers.{R10, R11, R12, R13}
use Rattle.journal.specs.Line.{version_text, text_of, in_range, line_of, versioned}
use Rattle.journal.specs.LineLaws.{text-only, text-least, line-shorter, dose-range, on-range}
use Rattle.journal.specs.Singles.{versioned-text, versioned-long, text-versioned, text-no-version, empty-no-version}
use Rattle.journal.specs.Journal.{hour_in, out_of_order, too_far, no_past, past_after, ordered, on_line, read_from, form_of, body_of, journal_of, lines_text, head_text, journal_text}
use Rattle.journal.specs.declared.Form.{Form}
use Rattle.journal.specs.declared.Form.TheVariants.{Old, New}
use Rattle.journal.specs.declared.Line.{Line}
use Rattle.journal.specs.declared.Line.TheVariants.{Dose, On}
use Rattle.journal.specs.declared.Past.{Past}

-- what follows a line, with b as the bound on the number of lines
abbrev next-line : (f : Form) (b : ℕ) (p : Past) (n : ℕ) (l : Line) (rest : List ℕ) → Answer (List Line)
next-line f b p n l rest = ordered p l n (told (λ (ls : List Line). l ∷ ls) (read_from f b (past_after p l) (suc n) rest))

-- the bound does not matter where it is at least the number of bytes
pub read-enough : (f : Form) (b c : ℕ) (p : Past) (n : ℕ) (l : List ℕ) → length l ≤ b → length l ≤ c → read_from f b p n l ≡ read_from f c p n l
unfolding read_from on_line
read-enough f zero zero p n l h k = refl
read-enough f zero (suc c) p n [] h k = refl
read-enough f zero (suc c) p n (x ∷ xs) h k = absurd (omega arith)
read-enough f (suc b) zero p n [] h k = refl
read-enough f (suc b) zero p n (x ∷ xs) h k = absurd (omega arith)
read-enough f (suc b) (suc c) p n [] h k = refl
read-enough f (suc b) (suc c) p n (x ∷ xs) h k = go (λ q m r i j. read-enough f b c q m r i j) (line_of f (x ∷ xs)) refl
  where
    go : ((q : Past) (m : ℕ) (r : List ℕ) → length r ≤ b → length r ≤ c → read_from f b q m r ≡ read_from f c q m r)
        → (q : Parsed Line) → line_of f (x ∷ xs) ≡ q → on_line n q (next-line f b p n) ≡ on_line n q (next-line f c p n)
    go again (good l rest) e =
        let s = line-shorter f (x ∷ xs) l rest e in
        ap (λ (a : Answer (List Line)). ordered p l n (told (λ (ls : List Line). l ∷ ls) a)) (again (past_after p l) (suc n) rest (omega arith) (omega arith))
    go again bad e = refl

-- the lines from line n on
unfoldable pub lines_from : Form → Past → ℕ → List ℕ → Answer (List Line)
lines_from f p n l = read_from f (length l) p n l

pub lines_none : (f : Form) (p : Past) (n : ℕ) → lines_from f p n [] ≡ done []
unfolding lines_from read_from
lines_none f p n = refl

pub lines-bad : (f : Form) (p : Past) (n : ℕ) (l : List ℕ) → 0 < length l → line_of f l ≡ bad → lines_from f p n l ≡ refused R10 (n ∷ [])
unfolding lines_from read_from on_line
lines-bad f p n [] h e = absurd (omega arith)
lines-bad f p n (b ∷ bs) h e = rw e

pub lines-good : (f : Form) (p : Past) (n : ℕ) (l : List ℕ) (x : Line) (rest : List ℕ) → line_of f l ≡ good x rest
    → lines_from f p n l ≡ ordered p x n (told (λ (ls : List Line). x ∷ ls) (lines_from f (past_after p x) (suc n) rest))
unfolding lines_from read_from on_line
lines-good f p n [] x rest e = absurd (omega (arith, line-shorter f [] x rest e))
lines-good f p n (b ∷ bs) x rest e =
    let s = line-shorter f (b ∷ bs) x rest e in
    ap (λ (q : Parsed Line). on_line n q (next-line f (length bs) p n)) e
    ∙ ap (λ (a : Answer (List Line)). ordered p x n (told (λ (ls : List Line). x ∷ ls) a)) (read-enough f (length bs) (length rest) (past_after p x) (suc n) rest (omega arith) (omega arith))

-- what stands before the first line with an hour: so many lines and bytes
unfoldable pub head_lines : Form → ℕ
head_lines Old = 0
head_lines New = 1

unfoldable pub head_bytes : Form → ℕ
head_bytes Old = 0
head_bytes New = 4

-- one line at most
pub head_few : (f : Form) → head_lines f ≤ 1
unfolding head_lines
head_few Old = omega arith
head_few New = omega arith

body-lines : (f : Form) (s : List ℕ) → body_of f s ≡ lines_from f no_past (head_lines f + 1) (drop (head_bytes f) s)
unfolding body_of lines_from head_lines head_bytes
body-lines Old s = refl
body-lines New s = read-enough New (length s) (length (drop 4 s)) no_past 2 (drop 4 s) (rw (length-drop 4 s) (omega arith)) (le_refl _)

-- R13, then line by line
pub journal-lines : (s : List ℕ) → length s ≤ 65536 → journal_of s ≡ lines_from (form_of s) no_past (head_lines (form_of s) + 1) (drop (head_bytes (form_of s)) s)
unfolding journal_of
journal-lines s h = pick-f _ _ _ (le-ltb 65536 (length s) h) ∙ body-lines (form_of s) s

pub journal-long : (s : List ℕ) → 65536 < length s → journal_of s ≡ refused R13 []
unfolding journal_of
journal-long s h = pick-t _ _ _ (lt-ltb 65536 (length s) h)

-- what stands before the first line with an hour is among the bytes
pub head-inside : (s : List ℕ) → head_bytes (form_of s) ≤ length s
unfolding form_of head_bytes pick
head-inside s = go (versioned s) refl
  where
    go : (b : Bool) → versioned s ≡ b → head_bytes (pick b New Old) ≤ length s
    go true e = versioned-long s e
    go false e = omega arith

-- and is the text that a journal of its form begins with
pub head-text : (s : List ℕ) → s ≡ head_text (form_of s) ++ drop (head_bytes (form_of s)) s
unfolding form_of head_text head_bytes pick
head-text s = go (versioned s) refl
  where
    go : (b : Bool) → versioned s ≡ b → s ≡ head_text (pick b New Old) ++ drop (head_bytes (pick b New Old)) s
    go true e = versioned-text s e
    go false e = refl

-- ---- what is told of the lines from line n on

told-told : {A B C : Type 0} (f : B → C) (g : A → B) (a : Answer A) → told f (told g a) ≡ told (λ x. f (g x)) a
unfolding told
told-told f g (done x) = refl
told-told f g (refused n vs) = refl
told-told f g (fault n vs) = refl

pub told_same : {A B : Type 0} (f g : A → B) (a : Answer A) → ((x : A) → f x ≡ g x) → told f a ≡ told g a
unfolding told
told_same f g (done x) h = ap (λ (y : _). done y) (h x)
told_same f g (refused n vs) h = refl
told_same f g (fault n vs) h = refl

told-ordered : {A B : Type 0} (f : A → B) (p : Past) (l : Line) (n : ℕ) (a : Answer A) → told f (ordered p l n a) ≡ ordered p l n (told f a)
unfolding ordered told
told-ordered f p l n a =
    let late = p.begun && out_of_order p.last p.closed (hour_in l) in
    let far = p.begun && too_far p.first (hour_in l) in
    pick-map (told f) late (refused R11 (n ∷ [])) (pick far (refused R12 (n ∷ [])) a)
    ∙ ap (pick late (refused R11 (n ∷ []))) (pick-map (told f) far (refused R12 (n ∷ [])) a)

pub told_none : {X : Type 0} (f : Form) (g : List Line → X) (p : Past) (n : ℕ) → told g (lines_from f p n []) ≡ done (g [])
unfolding told
told_none f g p n = ap (told g) (lines_none f p n)

pub told-bad : {X : Type 0} (f : Form) (g : List Line → X) (p : Past) (n : ℕ) (l : List ℕ) → 0 < length l → line_of f l ≡ bad → told g (lines_from f p n l) ≡ refused R10 (n ∷ [])
unfolding told
told-bad f g p n l h e = ap (told g) (lines-bad f p n l h e)

-- after a line, what g tells of it and the others is what k tells of the others
pub told-good : {X : Type 0} (f : Form) (g k : List Line → X) (p : Past) (n : ℕ) (l : List ℕ) (x : Line) (rest : List ℕ) → line_of f l ≡ good x rest → ((ls : List Line) → g (x ∷ ls) ≡ k ls)
    → told g (lines_from f p n l) ≡ ordered p x n (told k (lines_from f (past_after p x) (n + 1) rest))
told-good f g k p n l x rest e h =
    let more = lines_from f (past_after p x) (suc n) rest in
    ap (told g) (lines-good f p n l x rest e)
    ∙ told-ordered g p x n (told (λ (ls : List Line). x ∷ ls) more)
    ∙ ap (ordered p x n) (told-told g (λ (ls : List Line). x ∷ ls) more
    ∙ told_same (λ (ls : List Line). g (x ∷ ls)) k more h
    ∙ ap (λ (m : ℕ). told k (lines_from f (past_after p x) m rest)) (sym (add-one n)))

-- a line against those before it
pub order-broken : {X : Type 0} (p : Past) (l : Line) (n : ℕ) (a : Answer X) → (p.begun && out_of_order p.last p.closed (hour_in l)) ≡ true → ordered p l n a ≡ refused R11 (n ∷ [])
unfolding ordered
order-broken p l n a e = pick-t _ _ _ e

pub order-far : {X : Type 0} (p : Past) (l : Line) (n : ℕ) (a : Answer X) → (p.begun && out_of_order p.last p.closed (hour_in l)) ≡ false
    → (p.begun && too_far p.first (hour_in l)) ≡ true → ordered p l n a ≡ refused R12 (n ∷ [])
unfolding ordered
order-far p l n a e f = pick-f _ _ _ e ∙ pick-t _ _ _ f

pub order-kept : {X : Type 0} (p : Past) (l : Line) (n : ℕ) (a : Answer X) → (p.begun && out_of_order p.last p.closed (hour_in l)) ≡ false
    → (p.begun && too_far p.first (hour_in l)) ≡ false → ordered p l n a ≡ a
unfolding ordered
order-kept p l n a e f = pick-f _ _ _ e ∙ pick-f _ _ _ f

-- the order of a line after those before it, and its distance from the first
pub record Keeps (p : Past) (l : Line) : Type 0 where
  pub order : (p.begun && out_of_order p.last p.closed (hour_in l)) ≡ false
  pub near : (p.begun && too_far p.first (hour_in l)) ≡ false

-- the bytes s hold the lines ls, all of one form, after lines that leave p
pub data ReadsLines (f : Form) : Past → List ℕ → List Line → Type 0 where
  none : {p : Past} → ReadsLines f p [] []
  more : {p : Past} {s rest : List ℕ} {l : Line} {ls : List Line} → line_of f s ≡ good l rest → Keeps p l → ReadsLines f (past_after p l) rest ls → ReadsLines f p s (l ∷ ls)

kept : (p : Past) (l : Line) (n : ℕ) (a : Answer (List Line)) (ls : List Line) → ordered p l n a ≡ done ls → Keeps p l × (a ≡ done ls)
unfolding ordered
kept p l n a ls e = go (p.begun && out_of_order p.last p.closed (hour_in l)) (p.begun && too_far p.first (hour_in l)) refl refl e
  where
    go : (x y : Bool) → (p.begun && out_of_order p.last p.closed (hour_in l)) ≡ x → (p.begun && too_far p.first (hour_in l)) ≡ y
        → pick x (refused R11 (n ∷ [])) (pick y (refused R12 (n ∷ [])) a) ≡ done ls → Keeps p l × (a ≡ done ls)
    go true y q r h = refused-done (sym (pick_true _ _) ∙ h)
    go false true q r h = refused-done (sym (pick_true _ _) ∙ sym (pick-false _ _) ∙ h)
    go false false q r h = (record { order = q; near = r }, sym (pick-false _ _) ∙ sym (pick-false _ _) ∙ h)

told-done : (l : Line) (a : Answer (List Line)) (ls : List Line) → told (λ (ms : List Line). l ∷ ms) a ≡ done ls → (ms : List Line) × (a ≡ done ms) × (ls ≡ l ∷ ms)
unfolding told
told-done l (done ms) ls e = (ms, refl, cc)
told-done l (refused n vs) ls e = refused-done e
told-done l (fault n vs) ls e = fault-done e

reads_none : (f : Form) (p : Past) (n : ℕ) (ls : List Line) → lines_from f p n [] ≡ done ls → ReadsLines f p [] ls
reads_none f p n ls e = let q : [] ≡ ls = cc (lines_none f p n) in subst (λ (ms : List Line). ReadsLines f p [] ms) q none

-- bytes are read as lines exactly if they hold them
pub lines-reads : (f : Form) (b : ℕ) (p : Past) (n : ℕ) (s : List ℕ) (ls : List Line) → length s ≤ b → lines_from f p n s ≡ done ls → ReadsLines f p s ls
lines-reads f zero p n [] ls h e = reads_none f p n ls e
lines-reads f zero p n (x ∷ xs) ls h e = absurd (omega arith)
lines-reads f (suc b) p n [] ls h e = reads_none f p n ls e
lines-reads f (suc b) p n (x ∷ xs) ls h e = go (λ q m r ms k d. lines-reads f b q m r ms k d) (line_of f (x ∷ xs)) refl
  where
    go : ((q : Past) (m : ℕ) (r : List ℕ) (ms : List Line) → length r ≤ b → lines_from f q m r ≡ done ms → ReadsLines f q r ms) → (q : Parsed Line) → line_of f (x ∷ xs) ≡ q → ReadsLines f p (x ∷ xs) ls
    go again (good l rest) q =
        let k = kept p l n _ ls (sym (lines-good f p n (x ∷ xs) l rest q) ∙ e) in
        let t = told-done l (lines_from f (past_after p l) (suc n) rest) ls k.1 in
        let s = line-shorter f (x ∷ xs) l rest q in
        subst (λ (ms : List Line). ReadsLines f p (x ∷ xs) ms) (sym t.2) (more q k.0 (again (past_after p l) (suc n) rest t.0 (omega arith) t.1))
    go again bad q = refused-done (sym (lines-bad f p n (x ∷ xs) (omega arith) q) ∙ e)

pub reads_lines : {f : Form} {p : Past} {s : List ℕ} {ls : List Line} (n : ℕ) → ReadsLines f p s ls → lines_from f p n s ≡ done ls
unfolding ordered told
reads_lines {f} {p} n none = lines_none f p n
reads_lines {f} {p} {s} n (more {rest = rest} {l = l} {ls = ls} e k r) =
    lines-good f p n s l rest e ∙ pick-f _ _ _ k.order ∙ pick-f _ _ _ k.near ∙ ap (told (λ (ms : List Line). l ∷ ms)) (reads_lines (suc n) r)

pub journal-short : (s : List ℕ) (ls : List Line) → journal_of s ≡ done ls → length s ≤ 65536
journal-short s ls e =
    elim (dec_lt 65536 (length s)) [
      | yes h ↦ refused-done (sym (journal-long s h) ∙ e)
      | no h ↦ omega arith
    ]

-- a journal is read as lines exactly if it is not too long and they stand behind what it begins with
pub journal-reads : (s : List ℕ) (ls : List Line) → journal_of s ≡ done ls → ReadsLines (form_of s) no_past (drop (head_bytes (form_of s)) s) ls
journal-reads s ls e =
    let body = drop (head_bytes (form_of s)) s in
    lines-reads (form_of s) (length body) no_past (head_lines (form_of s) + 1) body ls (le_refl (length body)) (sym (journal-lines s (journal-short s ls e)) ∙ e)

pub reads-journal : (s : List ℕ) (ls : List Line) → length s ≤ 65536 → ReadsLines (form_of s) no_past (drop (head_bytes (form_of s)) s) ls → journal_of s ≡ done ls
reads-journal s ls h r = journal-lines s h ∙ reads_lines (head_lines (form_of s) + 1) r

-- a rule holds of each line
abbrev pub Each : (Line → Type 0) → List Line → Type 0
Each P [] = Unit
Each P (l ∷ ls) = P l × Each P ls

pub each_map : {P Q : Line → Type 0} (ls : List Line) → ((l : Line) → P l → Q l) → Each P ls → Each Q ls
each_map [] f e = tt
each_map (l ∷ ls) f e = (f l e.0, each_map ls f e.1)

-- the bytes are the lines' text
reads-text : {f : Form} {p : Past} {s : List ℕ} {ls : List Line} → ReadsLines f p s ls → s ≡ lines_text f ls
unfolding lines_text
reads-text none = refl
reads-text {f} {p} {s} (more {rest = rest} {l = l} e k r) = (text-only f s l rest e).text ∙ ap (λ (t : List ℕ). text_of f l ++ t) (reads-text r)

reads-range : {f : Form} {p : Past} {s : List ℕ} {ls : List Line} → ReadsLines f p s ls → Each (λ l. in_range f l ≡ true) ls
reads-range none = tt
reads-range {f} {p} {s} (more {rest = rest} {l = l} e k r) = ((text-only f s l rest e).range, reads-range r)

pub journal-text : (s : List ℕ) (ls : List Line) → journal_of s ≡ done ls → s ≡ journal_text (form_of s) ls
unfolding journal_text
journal-text s ls e = head-text s ∙ ap (λ (t : List ℕ). head_text (form_of s) ++ t) (reads-text (journal-reads s ls e))

pub journal-range : (s : List ℕ) (ls : List Line) → journal_of s ≡ done ls → Each (λ l. in_range (form_of s) l ≡ true) ls
journal-range s ls e = reads-range (journal-reads s ls e)

-- the text of a journal has its form, and its lines stand behind what it begins with
lines-old : (f : Form) (ls : List Line) → versioned (lines_text f ls) ≡ false
unfolding lines_text
lines-old f [] = empty-no-version
lines-old f (l ∷ ls) = text-no-version f l (lines_text f ls)

pub text-form : (f : Form) (ls : List Line) → form_of (journal_text f ls) ≡ f
unfolding form_of journal_text head_text
text-form Old ls = pick-f _ _ _ (lines-old Old ls)
text-form New ls = pick-t _ _ _ (text-versioned (lines_text New ls))

pub text-body : (f : Form) (ls : List Line) → drop (head_bytes f) (journal_text f ls) ≡ lines_text f ls
unfolding journal_text head_text head_bytes version_text
text-body Old ls = refl
text-body New ls = refl

pub hour-range : (f : Form) (l : Line) → in_range f l ≡ true → hour_in l ≤ 9999999
unfolding hour_in
hour-range f (Dose h c a s p) e = (dose-range f h c a s p e).0
hour-range f (On h) e = on-range f h e

text-lines : (f : Form) (ls : List Line) → 4 * length ls ≤ length (lines_text f ls)
unfolding lines_text
text-lines f [] = omega arith
text-lines f (l ∷ ls) = omega (arith, text-least f l, text-lines f ls, length-append (text_of f l) (lines_text f ls))

-- a line takes at least 4 bytes, so a journal has at most 16,384 lines
pub lines-most : (s : List ℕ) (ls : List Line) → journal_of s ≡ done ls → 4 * length ls ≤ length s
unfolding journal_text
lines-most s ls e = omega (arith, text-lines (form_of s) ls, ap length (journal-text s ls e), length-append (head_text (form_of s)) (lines_text (form_of s) ls))
