-- Where a hole is: exactly between two D lines, the one just before the other, whose counts do not follow; and that counts which follow make none. Assumes nothing.
use Rattle.std.specs.Prelude.{◌≡◌, refl, Some, None, Bool, true, false, not, ◌&&◌, ◌||◌, List, [], ◌∷◌, ◌++◌, ◌⊎◌, ℕ, ◌+◌, ◌%◌, ◌≤◌, eqb, leb}
use Rattle.std.proofs.Common.{sym, ap, ◌∙◌, inl, inr, arith, eqb-true, eq-eqb, le-leb, leb-true}
use Rattle.std.proofs.Math.Bool.{or-true, or-false, or_assoc}
use Rattle.std.proofs.lemmas.Bool.{not-true, eqb-false}
use Rattle.laws.specs.Bools.{and_left, and_right}
use Rattle.laws.specs.Pick.{pick-if}
use Rattle.laws.specs.Whole.{false-true}
use Rattle.journal.specs.JournalLaws.{Each}
use Rattle.journal.specs.declared.Line.{Line}
use Rattle.journal.specs.declared.Line.TheVariants.{Dose, On}
use Rattle.holes.specs.Holes.{Before, next_count, follows, dose_before, ends_hole, hole_from, in_hole}

-- each of the two follows from the other
abbrev pub Exactly : Type 0 → Type 0 → Type 0
Exactly a b = (a → b) × (b → a)

-- ---- one line more

-- the D line before the line after some lines
unfoldable pub last_dose : Before → List Line → Before
last_dose b [] = b
last_dose b (l ∷ ls) = last_dose (dose_before b l) ls

pub last-dose-more : (b : Before) (ls : List Line) (l : Line) → last_dose b (ls ++ l ∷ []) ≡ dose_before (last_dose b ls) l
unfolding last_dose
last-dose-more b [] l = refl
last-dose-more b (m ∷ ls) l = last-dose-more (dose_before b m) ls l

from_more : (h : ℕ) (b : Before) (ls : List Line) (l : Line) → hole_from h b (ls ++ l ∷ []) ≡ (hole_from h b ls || ends_hole h (last_dose b ls) l)
unfolding hole_from last_dose
from_more h b [] l = or-false (ends_hole h b l)
from_more h b (m ∷ ls) l =
    ap (λ (x : Bool). ends_hole h b m || x) (from_more h (dose_before b m) ls l)
    ∙ sym (or_assoc (ends_hole h b m) (hole_from h (dose_before b m) ls) (ends_hole h (last_dose (dose_before b m) ls) l))

pub hole-more : (h : ℕ) (ls : List Line) (l : Line) → in_hole h (ls ++ l ∷ []) ≡ (in_hole h ls || ends_hole h (last_dose None ls) l)
unfolding in_hole
hole-more h ls l = from_more h None ls l

-- ---- where a hole is

abbrev pub OnLine : Line → Type 0
OnLine (Dose x c a s q) = ⊥
OnLine (On x) = Unit

-- behind a D line of hour x and count c the next D line, with at most H lines between, does not follow it, and h lies from x to its hour
pub record Breaks (h x c : ℕ) (ls : List Line) : Type 0 where
  pub between : List Line
  pub rest : List Line
  pub hour : ℕ
  pub count : ℕ
  pub amount : ℕ
  pub settled : ℕ
  pub product : ℕ
  pub whole : ls ≡ between ++ Dose hour count amount settled product ∷ rest
  pub ons : Each OnLine between
  pub broken : follows c count ≡ false
  pub from : x ≤ h
  pub to : h ≤ hour

-- a D line and the D line just before it whose counts do not follow, h from the earlier one's hour to the later one's
pub record Hole (h : ℕ) (ls : List Line) : Type 0 where
  pub fore : List Line
  pub rest : List Line
  pub hour : ℕ
  pub count : ℕ
  pub amount : ℕ
  pub settled : ℕ
  pub product : ℕ
  pub whole : ls ≡ fore ++ Dose hour count amount settled product ∷ rest
  pub next : Breaks h hour count rest

breaks-here : (h x c y d a s q : ℕ) (ls : List Line) → ends_hole h (Some (x, c)) (Dose y d a s q) ≡ true → Breaks h x c (Dose y d a s q ∷ ls)
unfolding ends_hole
breaks-here h x c y d a s q ls e =
    let spans = and_right (not (follows c d)) (leb x h && leb h y) e in
    record {
      between = [];
      rest = ls;
      hour = y;
      count = d;
      amount = a;
      settled = s;
      product = q;
      whole = refl;
      ons = tt;
      broken = not-true (follows c d) (and_left (not (follows c d)) _ e);
      from = leb-true x h (and_left (leb x h) (leb h y) spans);
      to = leb-true h y (and_right (leb x h) (leb h y) spans);
    }

breaks-on : (h x c y : ℕ) (ls : List Line) → Breaks h x c ls → Breaks h x c (On y ∷ ls)
breaks-on h x c y ls b =
    record {
      between = On y ∷ b.between;
      rest = b.rest;
      hour = b.hour;
      count = b.count;
      amount = b.amount;
      settled = b.settled;
      product = b.product;
      whole = ap (λ (m : List Line). On y ∷ m) b.whole;
      ons = (tt, b.ons);
      broken = b.broken;
      from = b.from;
      to = b.to;
    }

hole-here : (h x c a s q : ℕ) (ls : List Line) → Breaks h x c ls → Hole h (Dose x c a s q ∷ ls)
hole-here h x c a s q ls b = record { fore = []; rest = ls; hour = x; count = c; amount = a; settled = s; product = q; whole = refl; next = b }

hole-later : (h : ℕ) (l : Line) (ls : List Line) → Hole h ls → Hole h (l ∷ ls)
hole-later h l ls o =
    record {
      fore = l ∷ o.fore;
      rest = o.rest;
      hour = o.hour;
      count = o.count;
      amount = o.amount;
      settled = o.settled;
      product = o.product;
      whole = ap (λ (m : List Line). l ∷ m) o.whole;
      next = o.next;
    }

after-dose : (h x c : ℕ) (ls : List Line) → hole_from h (Some (x, c)) ls ≡ true → Breaks h x c ls ⊎ Hole h ls
unfolding hole_from dose_before ends_hole
after-dose h x c [] e = false-true e
after-dose h x c (On y ∷ ls) e = go (after-dose h x c ls e)
  where
    go : Breaks h x c ls ⊎ Hole h ls → Breaks h x c (On y ∷ ls) ⊎ Hole h (On y ∷ ls)
    go (inl b) = inl (breaks-on h x c y ls b)
    go (inr o) = inr (hole-later h (On y) ls o)
after-dose h x c (Dose y d a s q ∷ ls) e = go (ends_hole h (Some (x, c)) (Dose y d a s q)) refl e (after-dose h y d ls)
  where
    later : Breaks h y d ls ⊎ Hole h ls → Hole h (Dose y d a s q ∷ ls)
    later (inl b) = hole-here h y d a s q ls b
    later (inr o) = hole-later h (Dose y d a s q) ls o

    go : (b : Bool) → ends_hole h (Some (x, c)) (Dose y d a s q) ≡ b → (b || hole_from h (Some (y, d)) ls) ≡ true → (hole_from h (Some (y, d)) ls ≡ true → Breaks h y d ls ⊎ Hole h ls) → Breaks h x c (Dose y d a s q ∷ ls) ⊎ Hole h (Dose y d a s q ∷ ls)
    go true p e rest = inl (breaks-here h x c y d a s q ls p)
    go false p e rest = inr (later (rest e))

hole-found : (h : ℕ) (ls : List Line) → hole_from h None ls ≡ true → Hole h ls
unfolding hole_from dose_before ends_hole
hole-found h [] e = false-true e
hole-found h (On y ∷ ls) e = hole-later h (On y) ls (hole-found h ls e)
hole-found h (Dose x c a s q ∷ ls) e = go (after-dose h x c ls e)
  where
    go : Breaks h x c ls ⊎ Hole h ls → Hole h (Dose x c a s q ∷ ls)
    go (inl b) = hole-here h x c a s q ls b
    go (inr o) = hole-later h (Dose x c a s q) ls o

break-hole : (h x c y d a s q : ℕ) (between rest : List Line) → Each OnLine between → follows c d ≡ false → x ≤ h → h ≤ y → hole_from h (Some (x, c)) (between ++ Dose y d a s q ∷ rest) ≡ true
unfolding hole_from dose_before ends_hole
break-hole h x c y d a s q [] rest o b f t = rw (b, le-leb x h f, le-leb h y t)
break-hole h x c y d a s q (On z ∷ between) rest o b f t = break-hole h x c y d a s q between rest o.1 b f t
break-hole h x c y d a s q (Dose z e u v w ∷ between) rest o b f t = absurd o.0

hole-behind : (h x c a s q : ℕ) (b : Before) (fore rest : List Line) → hole_from h (Some (x, c)) rest ≡ true → hole_from h b (fore ++ Dose x c a s q ∷ rest) ≡ true
unfolding hole_from dose_before
hole-behind h x c a s q b [] rest e = rw e (or-true (ends_hole h b (Dose x c a s q)))
hole-behind h x c a s q b (l ∷ fore) rest e = rw (hole-behind h x c a s q (dose_before b l) fore rest e) (or-true (ends_hole h b l))

-- an hour lies in a hole exactly if there are such two lines
pub hole-exactly : (ls : List Line) (h : ℕ) → Exactly (in_hole h ls ≡ true) (Hole h ls)
unfolding in_hole
hole-exactly ls h = (hole-found h ls, back)
  where
    back : Hole h ls → hole_from h None ls ≡ true
    back o =
        let n = o.next in
        ap (hole_from h None) o.whole
        ∙ hole-behind h o.hour o.count o.amount o.settled o.product None o.fore o.rest
        (ap (hole_from h (Some (o.hour, o.count))) n.whole ∙ break-hole h o.hour o.count n.hour n.count n.amount n.settled n.product n.between n.rest n.ons n.broken n.from n.to)

-- ---- counts that follow

-- the counts of the D lines
unfoldable pub counts_in : List Line → List ℕ
counts_in [] = []
counts_in (Dose x c a s q ∷ ls) = c ∷ counts_in ls
counts_in (On x ∷ ls) = counts_in ls

-- each count follows the one before it, the first this one
unfoldable pub follow_on : ℕ → List ℕ → Bool
follow_on before [] = true
follow_on before (count ∷ counts) = follows before count && follow_on count counts

-- The first D line of a journal is not tested
unfoldable pub all_follow : List ℕ → Bool
all_follow [] = true
all_follow (count ∷ counts) = follow_on count counts

after_none : (h x c : ℕ) (ls : List Line) → follow_on c (counts_in ls) ≡ true → hole_from h (Some (x, c)) ls ≡ false
unfolding hole_from dose_before ends_hole counts_in follow_on
after_none h x c [] e = refl
after_none h x c (On y ∷ ls) e = after_none h x c ls e
after_none h x c (Dose y d a s q ∷ ls) e = rw (and_left (follows c d) _ e) (after_none h y d ls (and_right (follows c d) _ e))

from-none : (h : ℕ) (ls : List Line) → all_follow (counts_in ls) ≡ true → hole_from h None ls ≡ false
unfolding hole_from dose_before ends_hole counts_in all_follow
from-none h [] e = refl
from-none h (On y ∷ ls) e = from-none h ls e
from-none h (Dose x c a s q ∷ ls) e = after_none h x c ls e

-- where all follow no hour lies in a hole
pub follow-no-hole : (h : ℕ) (ls : List Line) → all_follow (counts_in ls) ≡ true → in_hole h ls ≡ false
unfolding in_hole
follow-no-hole h ls e = from-none h ls e

-- what follows this one also follows with the first untested
pub first-free : (before : ℕ) (counts : List ℕ) → follow_on before counts ≡ true → all_follow counts ≡ true
unfolding follow_on all_follow
first-free before [] h = refl
first-free before (count ∷ counts) h = and_right (follows before count) _ h

-- ---- the box's own counts follow

next-is : (k : ℕ) → k ≤ 999999 → (k + 1) % 1000000 ≡ next_count k
unfolding next_count
next-is k h =
    pick-if (λ (x : ℕ). (k + 1) % 1000000 ≡ x) (eqb k 999999) (λ e. omega (arith, eqb-true k 999999 e)) (λ e. let other = eqb-false k 999999 e in omega arith)

-- a completed dose adds 1 to the count (0 follows 999,999)
pub counted-follows : (k : ℕ) → k ≤ 999999 → follows k ((k + 1) % 1000000) ≡ true
unfolding follows
counted-follows k h = rw (eq-eqb _ _ (next-is k h)) (or-true (eqb ((k + 1) % 1000000) 1))

-- the first after a counter reset is 1
pub one_follows : (k : ℕ) → follows k 1 ≡ true
unfolding follows
one_follows k = refl

or_elim : {Q : Type 0} (a b : Bool) → (a || b) ≡ true → (a ≡ true → Q) → (b ≡ true → Q) → Q
or_elim true b e f g = f refl
or_elim false b e f g = g e

-- and nothing else follows: a count follows exactly if it is 1, or the one before it and one (0 after 999,999)
pub follows-exactly : (before count : ℕ) → before ≤ 999999 → Exactly (follows before count ≡ true) ((count ≡ 1) ⊎ (count ≡ (before + 1) % 1000000))
unfolding follows
follows-exactly before count h = (λ e. or_elim _ _ e (λ p. inl (eqb-true _ _ p)) (λ p. inr (eqb-true _ _ p ∙ sym (next-is before h))), made)
  where
    made : (count ≡ 1) ⊎ (count ≡ (before + 1) % 1000000) → follows before count ≡ true
    made (inl e) = ap (follows before) e ∙ one_follows before
    made (inr e) = ap (follows before) e ∙ counted-follows before h
