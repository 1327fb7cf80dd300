-- When a day is worked, a holiday or unknown: three cases, no two of which hold, and what the journal's lines then are. Assumes nothing.
use Rattle.std.specs.Prelude.{◌≡◌, refl, Bool, true, false, not, ◌&&◌, ◌||◌, ◌⊎◌, ℕ, zero, suc, ◌+◌, ◌<◌}
use Rattle.std.proofs.Common.{sym, ap, ◌∙◌, true≢false, inl, inr, arith}
use mathlib.Core.List.{List, [], ◌∷◌, ◌++◌, Memᴰ}
use Rattle.std.proofs.Math.Decide.{dec_lt}
use Rattle.std.proofs.lemmas.Bool.{not-true}
use Rattle.laws.specs.Pick.{pick}
use Rattle.laws.specs.Bools.{and_left, and_right}
use Rattle.journal.specs.declared.Line.{Line}
use Rattle.journal.specs.declared.Line.TheVariants.{Dose, On}
use Rattle.holes.specs.Holes.{in_hole}
use Rattle.hourly.specs.declared.Products.TheVariants.{All}
use Rattle.hourly.specs.Hours.{HourAnswer, measured, idle, missing, amounts_at, has_on, measured_or_idle, hour_of, asks_for}
use Rattle.hourly.specs.Kinds.{on-exactly, none-exactly}
use Rattle.holes.specs.HoleLaws.{Exactly}
use Rattle.weekly.specs.Week.{list_of, day_by}
use Rattle.weekly.specs.Day.{is_measured, is_idle, is_missing, any, all, is_worked, is_holiday, is_unknown, kind_of, day_of}
use Rattle.weekly.specs.declared.Kind.TheVariants.{Worked, Holiday, Unknown}

-- ---- three cases

-- where all are idle none is measured and none is missing
idle-none : (hs : List HourAnswer) → all is_idle hs ≡ true → (any is_measured hs ≡ false) × (any is_missing hs ≡ false)
unfolding all any
idle-none [] e = (refl, refl)
idle-none (measured s l m ∷ hs) e = absurd (true≢false (sym e))
idle-none (idle ∷ hs) e = idle-none hs e
idle-none (missing ∷ hs) e = absurd (true≢false (sym e))

-- where none is measured, all are idle or one is missing
idle-or : (hs : List HourAnswer) → any is_measured hs ≡ false → (all is_idle hs ≡ true) ⊎ (any is_missing hs ≡ true)
unfolding all any
idle-or [] e = inl refl
idle-or (measured s l m ∷ hs) e = absurd (true≢false e)
idle-or (idle ∷ hs) e = idle-or hs e
idle-or (missing ∷ hs) e = inr refl

-- one of the three holds
pub complete : (hs : List HourAnswer) → (is_worked hs ≡ true) ⊎ ((is_holiday hs ≡ true) ⊎ (is_unknown hs ≡ true))
unfolding is_worked is_holiday is_unknown
complete hs = go (any is_measured hs) refl
  where
    rest : (all is_idle hs ≡ true) ⊎ (any is_missing hs ≡ true) → (all is_idle hs ≡ true) ⊎ ((any is_missing hs && not false) ≡ true)
    rest (inl h) = inl h
    rest (inr h) = inr (rw h)

    go : (b : Bool) → any is_measured hs ≡ b → (b ≡ true) ⊎ ((all is_idle hs ≡ true) ⊎ ((any is_missing hs && not b) ≡ true))
    go true e = inl refl
    go false e = inr (rest (idle-or hs e))

-- no two of them hold
pub record Disjoint (hs : List HourAnswer) : Type 0 where
  pub worked-holiday : is_worked hs ≡ true → is_holiday hs ≡ true → ⊥
  pub worked-unknown : is_worked hs ≡ true → is_unknown hs ≡ true → ⊥
  pub holiday-unknown : is_holiday hs ≡ true → is_unknown hs ≡ true → ⊥

pub disjoint : (hs : List HourAnswer) → Disjoint hs
unfolding is_worked is_holiday is_unknown
disjoint hs = record {
  worked-holiday = λ w h. true≢false (sym w ∙ (idle-none hs h).0);
  worked-unknown = λ w u. true≢false (sym w ∙ not-true (any is_measured hs) (and_right (any is_missing hs) _ u));
  holiday-unknown = λ h u. true≢false (sym (and_left (any is_missing hs) _ u) ∙ (idle-none hs h).1);
}

-- the letter is that of the one that holds
pub worked-exactly : (hs : List HourAnswer) → Exactly (kind_of hs ≡ Worked) (is_worked hs ≡ true)
unfolding kind_of pick
worked-exactly hs = (only (is_worked hs) (is_holiday hs), λ e. rw e)
  where
    only : (w h : Bool) → pick w Worked (pick h Holiday Unknown) ≡ Worked → w ≡ true
    only true h e = refl
    only false true e = let z : ◌≡◌ {A = ℕ} 0 1 = cc in absurd (omega arith)
    only false false e = let z : ◌≡◌ {A = ℕ} 0 1 = cc in absurd (omega arith)

pub holiday-exactly : (hs : List HourAnswer) → Exactly (kind_of hs ≡ Holiday) (is_holiday hs ≡ true)
unfolding kind_of is_worked is_holiday pick
holiday-exactly hs = (only (any is_measured hs) (all is_idle hs), λ e. rw ((idle-none hs e).0, e))
  where
    only : (w h : Bool) → pick w Worked (pick h Holiday Unknown) ≡ Holiday → h ≡ true
    only true h e = let z : ◌≡◌ {A = ℕ} 0 1 = cc in absurd (omega arith)
    only false true e = refl
    only false false e = let z : ◌≡◌ {A = ℕ} 0 1 = cc in absurd (omega arith)

pub unknown-exactly : (hs : List HourAnswer) → Exactly (kind_of hs ≡ Unknown) (is_unknown hs ≡ true)
unfolding kind_of pick
unknown-exactly hs = (λ e. only (is_worked hs) (is_holiday hs) refl refl e (complete hs), made (is_worked hs) (is_holiday hs) refl refl)
  where
    only : (w h : Bool) → is_worked hs ≡ w → is_holiday hs ≡ h → pick w Worked (pick h Holiday Unknown) ≡ Unknown
        → (is_worked hs ≡ true) ⊎ ((is_holiday hs ≡ true) ⊎ (is_unknown hs ≡ true)) → is_unknown hs ≡ true
    only true h p q e c = let z : ◌≡◌ {A = ℕ} 0 1 = cc in absurd (omega arith)
    only false true p q e c = let z : ◌≡◌ {A = ℕ} 0 1 = cc in absurd (omega arith)
    only false false p q e (inl c) = absurd (true≢false (sym c ∙ p))
    only false false p q e (inr (inl c)) = absurd (true≢false (sym c ∙ q))
    only false false p q e (inr (inr c)) = c

    made : (w h : Bool) → is_worked hs ≡ w → is_holiday hs ≡ h → is_unknown hs ≡ true → pick w Worked (pick h Holiday Unknown) ≡ Unknown
    made true h p q e = absurd ((disjoint hs).worked-unknown p e)
    made false true p q e = absurd ((disjoint hs).holiday-unknown q e)
    made false false p q e = refl

-- ---- by its twenty-four hours

and-true : (a b : Bool) → a ≡ true → b ≡ true → (a && b) ≡ true
and-true a b p q = rw (p, q)

all_snoc : (p : HourAnswer → Bool) (hs : List HourAnswer) (h : HourAnswer) → Exactly (all p (hs ++ (h ∷ [])) ≡ true) ((all p hs ≡ true) × (p h ≡ true))
unfolding all
all_snoc p [] h = (λ e. (refl, and_left (p h) true e), λ e. rw e.1)
all_snoc p (x ∷ hs) h =
    let r = all_snoc p hs h in (
      λ e. let q = r.0 (and_right (p x) _ e) in (and-true (p x) (all p hs) (and_left (p x) _ e) q.0, q.1),
      λ e. and-true (p x) _ (and_left (p x) _ e.0) (r.1 (and_right (p x) _ e.0, e.1)),
    )

any_snoc : (p : HourAnswer → Bool) (hs : List HourAnswer) (h : HourAnswer) → Exactly (any p (hs ++ (h ∷ [])) ≡ true) ((any p hs ≡ true) ⊎ (p h ≡ true))
unfolding any
any_snoc p [] h = (λ e. inr (one (p h) e), back)
  where
    one : (b : Bool) → (b || false) ≡ true → b ≡ true
    one true e = refl
    one false e = e

    back : (false ≡ true) ⊎ (p h ≡ true) → (p h || false) ≡ true
    back (inl e) = absurd (true≢false (sym e))
    back (inr e) = rw e
any_snoc p (x ∷ hs) h = (there (p x) (any_snoc p hs h).0, back (p x) (any_snoc p hs h).1)
  where
    there : (b : Bool) → (any p (hs ++ (h ∷ [])) ≡ true → (any p hs ≡ true) ⊎ (p h ≡ true)) → (b || any p (hs ++ (h ∷ []))) ≡ true → ((b || any p hs) ≡ true) ⊎ (p h ≡ true)
    there true rest e = inl refl
    there false rest e = rest e

    back : (b : Bool) → ((any p hs ≡ true) ⊎ (p h ≡ true) → any p (hs ++ (h ∷ [])) ≡ true) → ((b || any p hs) ≡ true) ⊎ (p h ≡ true) → (b || any p (hs ++ (h ∷ []))) ≡ true
    back true rest e = refl
    back false rest e = rest e

-- all of the first n hours are so exactly if each is
pub all-exactly : (p : HourAnswer → Bool) (f : ℕ → HourAnswer) (n : ℕ) → Exactly (all p (list_of f n) ≡ true) ((k : ℕ) → k < n → p (f k) ≡ true)
unfolding list_of all
all-exactly p f zero = (λ e k h. absurd (omega arith), λ e. refl)
all-exactly p f (suc n) =
    let r = all-exactly p f n in
    let s = all_snoc p (list_of f n) (f n) in (
      λ e k h. elim (dec_lt k n) [
        | yes l ↦ r.0 (s.0 e).0 k l
        | no l ↦ let q : k ≡ n = omega arith in ap (λ (i : ℕ). p (f i)) q ∙ (s.0 e).1
      ],
      λ e. s.1 (r.1 (λ k h. e k (omega arith)), e n (omega arith)),
    )

-- one of them exactly if there is one
pub any-exactly : (p : HourAnswer → Bool) (f : ℕ → HourAnswer) (n : ℕ) → Exactly (any p (list_of f n) ≡ true) ((k : ℕ) × (k < n) × (p (f k) ≡ true))
unfolding list_of any
any-exactly p f zero = (λ e. absurd (true≢false (sym e)), λ e. absurd (omega (arith, e.1)))
any-exactly p f (suc n) = (λ e. there (any-exactly p f n).0 ((any_snoc p (list_of f n) (f n)).0 e), back (any-exactly p f n).1)
  where
    there : (any p (list_of f n) ≡ true → (k : ℕ) × (k < n) × (p (f k) ≡ true)) → (any p (list_of f n) ≡ true) ⊎ (p (f n) ≡ true) → (k : ℕ) × (k < suc n) × (p (f k) ≡ true)
    there rest (inl e) = let r = rest e in (r.0, omega (arith, r.1), r.2)
    there rest (inr e) = (n, omega arith, e)

    back : ((k : ℕ) × (k < n) × (p (f k) ≡ true) → any p (list_of f n) ≡ true) → (k : ℕ) × (k < suc n) × (p (f k) ≡ true) → any p (list_of f n ++ (f n ∷ [])) ≡ true
    back rest e =
        (any_snoc p (list_of f n) (f n)).1
        (elim (dec_lt e.0 n) [
          | yes l ↦ inl (rest (e.0, l, e.2))
          | no l ↦ let q : n ≡ e.0 = omega (arith, e.1) in inr (ap (λ (i : ℕ). p (f i)) q ∙ e.2)
        ])

-- ---- by the journal's lines

-- an hour is idle exactly if it lies in no hole, and the journal has its H and no D of it
idle-is : (ls : List Line) (h : ℕ) → Exactly (is_idle (hour_of All ls h) ≡ true) ((in_hole h ls ≡ false) × (has_on h ls ≡ true) × (amounts_at All h ls ≡ []))
unfolding hour_of measured_or_idle pick
idle-is ls h = (only (in_hole h ls) (has_on h ls) (amounts_at All h ls), λ e. rw (e.0, e.1, e.2))
  where
    only : (hole on : Bool) (amounts : List ℕ) → is_idle (pick hole missing (pick on (measured_or_idle amounts) missing)) ≡ true → (hole ≡ false) × (on ≡ true) × (amounts ≡ [])
    only true on amounts e = absurd (true≢false (sym e))
    only false true [] e = (refl, refl, refl)
    only false true (a ∷ as') e = absurd (true≢false (sym e))
    only false false amounts e = absurd (true≢false (sym e))

-- and measured exactly if it lies in no hole, and the journal has its H and a D of it
measured-is : (ls : List Line) (h : ℕ) → Exactly (is_measured (hour_of All ls h) ≡ true) ((in_hole h ls ≡ false) × (has_on h ls ≡ true) × (amounts_at All h ls ≡ [] → ⊥))
unfolding hour_of measured_or_idle pick
measured-is ls h = (only (in_hole h ls) (has_on h ls) (amounts_at All h ls), λ e. rw (e.0, e.1) (made (amounts_at All h ls) e.2))
  where
    only : (hole on : Bool) (amounts : List ℕ) → is_measured (pick hole missing (pick on (measured_or_idle amounts) missing)) ≡ true → (hole ≡ false) × (on ≡ true) × (amounts ≡ [] → ⊥)
    only true on amounts e = absurd (true≢false (sym e))
    only false true [] e = absurd (true≢false (sym e))
    only false true (a ∷ as') e = (refl, refl, λ f. let z : ◌≡◌ {A = ℕ} 0 1 = cc in omega arith)
    only false false amounts e = absurd (true≢false (sym e))

    made : (amounts : List ℕ) → (amounts ≡ [] → ⊥) → is_measured (measured_or_idle amounts) ≡ true
    made [] f = absurd (f refl)
    made (a ∷ as') f = refl

-- what the journal has of an idle hour: its H, no D of it, and no hole that covers it
pub record IdleLines (ls : List Line) (h : ℕ) : Type 0 where
  pub on : Memᴰ (On h) ls
  pub none : (c a s p : ℕ) → Memᴰ (Dose h c a s p) ls → ⊥
  pub hole : in_hole h ls ≡ false

-- a day prints I exactly if so it is of each of its 24 hours
pub holiday-lines : (ls : List Line) (h : ℕ) → Exactly ((day_of ls h).kind ≡ Holiday) ((k : ℕ) → k < 24 → IdleLines ls (h + k))
unfolding day_of day_by is_holiday asks_for
holiday-lines ls h =
    let day = holiday-exactly (day_by (hour_of All ls) h) in
    let hours = all-exactly is_idle (λ (k : ℕ). hour_of All ls (h + k)) 24 in (
      λ e k b.
          let i = (idle-is ls (h + k)).0 (hours.0 (day.0 e) k b) in
          record { on = (on-exactly ls (h + k)).0 i.1; none = λ c a s p. (none-exactly All ls (h + k)).0 i.2 c a s p refl; hole = i.0 },
      λ e.
          day.1
          (hours.1
          (λ k b.
          let i = e k b in
          (idle-is ls (h + k)).1 (i.hole, (on-exactly ls (h + k)).1 i.on, (none-exactly All ls (h + k)).1 (λ c a s p q. i.none c a s p)))),
    )

-- W exactly if one of its 24 hours is measured: no hole covers it, and the journal has its H and a D of it
pub worked-lines : (ls : List Line) (h : ℕ) → Exactly ((day_of ls h).kind ≡ Worked) ((k : ℕ) × (k < 24) × ((in_hole (h + k) ls ≡ false) × (has_on (h + k) ls ≡ true) × (amounts_at All (h + k) ls ≡ [] → ⊥)))
unfolding day_of day_by is_worked
worked-lines ls h =
    let day = worked-exactly (day_by (hour_of All ls) h) in
    let hours = any-exactly is_measured (λ (k : ℕ). hour_of All ls (h + k)) 24 in (
      λ e. let r = hours.0 (day.0 e) in (r.0, r.1, (measured-is ls (h + r.0)).0 r.2),
      λ e. day.1 (hours.1 (e.0, e.1, (measured-is ls (h + e.0)).1 e.2)),
    )
