-- The order of a journal's lines: exactly lines in range and in order are read, and every hour lies from the first to the last. Assumes nothing.
use Rattle.std.specs.Prelude.{◌≡◌, refl, Bool, true, false, List, [], ◌∷◌, ℕ, ◌+◌, ◌≤◌, ◌<◌, leb, ltb, length, drop}
use Rattle.std.proofs.Common.{sym, ◌∙◌, subst, arith, ltb-false, leb-false, le-ltb}
use Rattle.std.proofs.lemmas.Bool.{lt-leb}
use Rattle.laws.specs.Pick.{pick, pick_true, pick-false}
use Rattle.laws.specs.Whole.{true-false}
use Rattle.paper.specs.Answer.{done}
use Rattle.journal.specs.Line.{in_range}
use Rattle.journal.specs.LineLaws.{read-text}
use Rattle.journal.specs.Journal.{hour_in, closes, out_of_order, too_far, no_past, past_after, journal_of, first_hour, last_hour, lines_text, journal_text}
use Rattle.journal.specs.declared.Form.{Form}
use Rattle.journal.specs.declared.Line.{Line}
use Rattle.journal.specs.declared.Past.{Past}
use Rattle.journal.specs.JournalLaws.{Keeps, ReadsLines, none, more, Each, head_bytes, journal-reads, reads-journal, text-form, text-body}

-- Hours never go back, and after an H the next line's hour is greater
pub record Follows (l m : Line) : Type 0 where
  pub onward : hour_in l ≤ hour_in m
  pub beyond : closes l ≡ true → hour_in l < hour_in m

abbrev pub Steps : List Line → Type 0
Steps [] = Unit
Steps (l ∷ []) = Unit
Steps (l ∷ m ∷ ls) = Follows l m × Steps (m ∷ ls)

-- no line's hour is 744 or more above the first line's
pub record Ordered (ls : List Line) : Type 0 where
  pub steps : Steps ls
  pub near : Each (λ l. hour_in l < first_hour ls + 744) ls

-- each line keeps the order after those before it
abbrev Goes : Past → List Line → Type 0
Goes p [] = Unit
Goes p (l ∷ ls) = Keeps p l × Goes (past_after p l) ls

reads-goes : {f : Form} {p : Past} {s : List ℕ} {ls : List Line} → ReadsLines f p s ls → Goes p ls
reads-goes none = tt
reads-goes (more e k r) = (k, reads-goes r)

goes-reads : (f : Form) (p : Past) (ls : List Line) → Goes p ls → Each (λ l. in_range f l ≡ true) ls → ReadsLines f p (lines_text f ls) ls
unfolding lines_text
goes-reads f p [] g r = none
goes-reads f p (l ∷ ls) g r = more (read-text f l (lines_text f ls) r.0) g.0 (goes-reads f (past_after p l) ls g.1 r.1)

-- a test that a line keeps the order is the rule
keeps-follows : (p : Past) (l m : Line) → Keeps (past_after p l) m → Follows l m
unfolding past_after out_of_order
keeps-follows p l m k = go (closes l) refl k.order
  where
    go : (b : Bool) → closes l ≡ b → pick b (leb (hour_in m) (hour_in l)) (ltb (hour_in m) (hour_in l)) ≡ false → Follows l m
    go true q h = let f = leb-false (hour_in m) (hour_in l) (sym (pick_true _ _) ∙ h) in record { onward = omega arith; beyond = λ c. f }
    go false q h = let f = ltb-false (hour_in m) (hour_in l) (sym (pick-false _ _) ∙ h) in record { onward = f; beyond = λ c. true-false (sym c ∙ q) }

follows-keeps : (p : Past) (l m : Line) → Follows l m → hour_in m < (past_after p l).first + 744 → Keeps (past_after p l) m
unfolding past_after out_of_order too_far
follows-keeps p l m f n = record { order = go (closes l) refl; near = lt-leb _ _ n }
  where
    go : (b : Bool) → closes l ≡ b → pick b (leb (hour_in m) (hour_in l)) (ltb (hour_in m) (hour_in l)) ≡ false
    go true q = pick_true _ _ ∙ lt-leb _ _ (f.beyond q)
    go false q = pick-false _ _ ∙ le-ltb _ _ f.onward

keeps-near : (p : Past) (l m : Line) → Keeps (past_after p l) m → hour_in m < (past_after p l).first + 744
unfolding past_after too_far
keeps-near p l m k = leb-false _ _ k.near

first-kept : (p : Past) (l m : Line) → (past_after (past_after p l) m).first ≡ (past_after p l).first
unfolding past_after
first-kept p l m = pick_true _ _

goes-steps : (p : Past) (l : Line) (ls : List Line) → Goes (past_after p l) ls → Steps (l ∷ ls)
goes-steps p l [] g = tt
goes-steps p l (m ∷ ls) g = (keeps-follows p l m g.0, goes-steps (past_after p l) m ls g.1)

goes_near : (p : Past) (l : Line) (ls : List Line) (f : ℕ) → (past_after p l).first ≡ f → Goes (past_after p l) ls → Each (λ m. hour_in m < f + 744) ls
goes_near p l [] f e g = tt
goes_near p l (m ∷ ls) f e g = (omega (arith, e, keeps-near p l m g.0), goes_near (past_after p l) m ls f (first-kept p l m ∙ e) g.1)

steps-goes : (p : Past) (l : Line) (ls : List Line) (f : ℕ) → (past_after p l).first ≡ f → Steps (l ∷ ls) → Each (λ m. hour_in m < f + 744) ls → Goes (past_after p l) ls
steps-goes p l [] f e s n = tt
steps-goes p l (m ∷ ls) f e s n =
    (follows-keeps p l m s.0 (omega (arith, e, n.0)), steps-goes (past_after p l) m ls f (first-kept p l m ∙ e) s.1 n.1)

first_of : (l : Line) → (past_after no_past l).first ≡ hour_in l
unfolding past_after no_past
first_of l = pick-false _ _

keeps-first : (l : Line) → Keeps no_past l
unfolding no_past
keeps-first l = record { order = refl; near = refl }

goes-ordered : (ls : List Line) → Goes no_past ls → Ordered ls
unfolding first_hour
goes-ordered [] g = record { steps = tt; near = tt }
goes-ordered (l ∷ ls) g = record { steps = goes-steps no_past l ls g.1; near = (omega arith, goes_near no_past l ls (hour_in l) (first_of l) g.1) }

ordered-goes : (ls : List Line) → Ordered ls → Goes no_past ls
unfolding first_hour
ordered-goes [] o = tt
ordered-goes (l ∷ ls) o = (keeps-first l, steps-goes no_past l ls (hour_in l) (first_of l) o.steps o.near.1)

-- a journal is read exactly if it is the text of lines in range and in order, and not too long
pub journal-ordered : (s : List ℕ) (ls : List Line) → journal_of s ≡ done ls → Ordered ls
journal-ordered s ls e = goes-ordered ls (reads-goes (journal-reads s ls e))

pub ordered-journal : (f : Form) (ls : List Line) → Ordered ls → Each (λ l. in_range f l ≡ true) ls → length (journal_text f ls) ≤ 65536 → journal_of (journal_text f ls) ≡ done ls
ordered-journal f ls o r h =
    reads-journal (journal_text f ls) ls h
    (subst (λ (g : Form). ReadsLines g no_past (drop (head_bytes g) (journal_text f ls)) ls) (sym (text-form f ls))
    (subst (λ (s : List ℕ). ReadsLines f no_past s ls) (sym (text-body f ls)) (goes-reads f no_past ls (ordered-goes ls o) r)))

last-least : (l : Line) (ls : List Line) → Steps (l ∷ ls) → hour_in l ≤ last_hour (l ∷ ls)
unfolding last_hour
last-least l [] s = omega arith
last-least l (m ∷ ls) s = omega (arith, s.0.onward, last-least m ls s.1)

steps-last : (l : Line) (ls : List Line) → Steps (l ∷ ls) → Each (λ m. hour_in m ≤ last_hour (l ∷ ls)) (l ∷ ls)
unfolding last_hour
steps-last l [] s = (omega arith, tt)
steps-last l (m ∷ ls) s = (last-least l (m ∷ ls) s, steps-last m ls s.1)

steps_first : (l : Line) (ls : List Line) (f : ℕ) → f ≤ hour_in l → Steps (l ∷ ls) → Each (λ m. f ≤ hour_in m) (l ∷ ls)
steps_first l [] f h s = (h, tt)
steps_first l (m ∷ ls) f h s = (h, steps_first m ls f (omega (arith, s.0.onward)) s.1)

-- an hour from the first to the last, and less than 744 above the first
pub record Within (ls : List Line) (l : Line) : Type 0 where
  pub from : first_hour ls ≤ hour_in l
  pub to : hour_in l ≤ last_hour ls
  pub near : hour_in l < first_hour ls + 744

together : (whole ls : List Line) → Each (λ l. first_hour whole ≤ hour_in l) ls → Each (λ l. hour_in l ≤ last_hour whole) ls → Each (λ l. hour_in l < first_hour whole + 744) ls → Each (Within whole) ls
together whole [] a b c = tt
together whole (l ∷ ls) a b c = (record { from = a.0; to = b.0; near = c.0 }, together whole ls a.1 b.1 c.1)

pub ordered-within : (ls : List Line) → Ordered ls → Each (Within ls) ls
unfolding first_hour
ordered-within [] o = tt
ordered-within (l ∷ ls) o = together (l ∷ ls) (l ∷ ls) (steps_first l ls (hour_in l) (omega arith) o.steps) (steps-last l ls o.steps) o.near

pub journal-within : (s : List ℕ) (ls : List Line) → journal_of s ≡ done ls → Each (Within ls) ls
journal-within s ls e = ordered-within ls (journal-ordered s ls e)

last-holds : (P : ℕ → Type 0) (l : Line) (ls : List Line) → Each (λ m. P (hour_in m)) (l ∷ ls) → P (last_hour (l ∷ ls))
unfolding last_hour
last-holds P l [] e = e.0
last-holds P l (m ∷ ls) e = last-holds P m ls e.1

-- so does the last hour itself
pub ordered-span : (ls : List Line) → Ordered ls → (first_hour ls ≤ last_hour ls) × (last_hour ls < first_hour ls + 744)
unfolding first_hour last_hour
ordered-span [] o = (omega arith, omega arith)
ordered-span (l ∷ ls) o = (last-least l ls o.steps, last-holds (λ h. h < hour_in l + 744) l ls o.near)
