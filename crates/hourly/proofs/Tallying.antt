-- One line more, and what it does to the tally of each hour. Assumes nothing.
use mathlib.Core.Path.{◌≡◌, refl, sym, ap, ◌∙◌}
use mathlib.Core.Bool.{Bool, true, false, ◌&&◌, ◌||◌, or-true, or-false, or_assoc}
use mathlib.Core.List.{List, [], ◌∷◌, ◌++◌, append_assoc, append-nil}
use Prim.Native.Nat.{ℕ, ◌+◌, ◌-◌, ◌^◌, ◌≤◌, ◌<◌, max}
use native.Mathlib.Omega.{arith}
use native.Mathlib.Decide.{ℕ_discrete}
use lib.Dec.{eqb}
use lib.ListN.{length, get_or, set, length-append, length-set, replicate, length-replicate, get_or-replicate}
use lib.Seq.{get_or-set_same, get_or-set_other}
use borrow.Author.Tests.{eq-eqb, ne_eqb}
use Rattle.laws.specs.Pick.{pick, pick-f, pick_true, pick-false}
use Rattle.journal.specs.Line.{in_range}
use Rattle.journal.specs.Journal.{hour_in}
use Rattle.journal.specs.LineLaws.{dose-range}
use Rattle.journal.specs.declared.Form.TheVariants.{New}
use Rattle.journal.specs.declared.Line.{Line}
use Rattle.journal.specs.declared.Line.TheVariants.{Dose, On}
use Rattle.hourly.specs.Hours.{asks_for, dose_at, amounts_at, is_on, has_on, total, greatest}
use Rattle.hourly.specs.Accepted.{Ranged}
use Rattle.hourly.specs.Bounds.{modest}
use Rattle.hourly.specs.Tally.{outside, no_tally, with_dose, with_on, counted, tally_by, unmarked_of, Unmarked}
use Rattle.hourly.specs.declared.Products.{Products}
use Rattle.hourly.specs.declared.Tally.{Tally}
use Rattle.hourly.specs.Floats.{add-whole}

-- ---- one line more

and-true : (b c : Bool) → c ≡ true → (b && c) ≡ b
and-true true c e = e
and-true false c e = refl

and-false : (b c : Bool) → c ≡ false → (b && c) ≡ false
and-false true c e = e
and-false false c e = refl

amounts-more : (w : Products) (h : ℕ) (ls : List Line) (l : Line) → amounts_at w h (ls ++ l ∷ []) ≡ amounts_at w h ls ++ dose_at w h l
unfolding amounts_at
amounts-more w h [] l = append-nil (dose_at w h l)
amounts-more w h (x ∷ ls) l = ap (λ (r : List ℕ). dose_at w h x ++ r) (amounts-more w h ls l) ∙ sym (append_assoc (dose_at w h x) (amounts_at w h ls) (dose_at w h l))

on-more : (h : ℕ) (ls : List Line) (l : Line) → has_on h (ls ++ l ∷ []) ≡ (has_on h ls || is_on h l)
unfolding has_on
on-more h [] l = or-false (is_on h l)
on-more h (x ∷ ls) l = ap (λ (b : Bool). is_on h x || b) (on-more h ls l) ∙ sym (or_assoc (is_on h x) (has_on h ls) (is_on h l))

total-more : (as' : List ℕ) (a : ℕ) → total (as' ++ a ∷ []) ≡ total as' + a
unfolding total
total-more [] a = omega arith
total-more (x ∷ xs) a = omega (arith, total-more xs a)

greatest-more : (as' : List ℕ) (a : ℕ) → greatest (as' ++ a ∷ []) ≡ max (greatest as') a
unfolding greatest
greatest-more [] a = omega arith
greatest-more (x ∷ xs) a = omega (arith, greatest-more xs a)

tally-is : (w : Products) (ls : List Line) (h : ℕ) (amounts : List ℕ) (on : Bool) → amounts_at w h ls ≡ amounts → has_on h ls ≡ on → unmarked_of w ls h ≡ tally_by amounts on false
unfolding unmarked_of
tally-is w ls h amounts on a o = rw (a, o)

-- one amount more is added up exactly
dose-more : (amounts : List ℕ) (on : Bool) (a : ℕ) → total amounts ≤ 2 ^ 53 → a ≤ 2 ^ 53 → tally_by (amounts ++ a ∷ []) on false ≡ with_dose (tally_by amounts on false) a
unfolding with_dose
dose-more amounts on a h k = rw (length-append amounts (a ∷ []), total-more amounts a, greatest-more amounts a, sym (add-whole (total amounts) a h k))

-- a line of the hour is counted in
pub tally-here : (w : Products) (ls : List Line) (l : Line) → Ranged ls → in_range New l ≡ true → length ls ≤ 16384 → unmarked_of w (ls ++ l ∷ []) (hour_in l) ≡ counted w (unmarked_of w ls (hour_in l)) l
unfolding counted with_on hour_in dose_at is_on
tally-here w ls (Dose x c a s p) r i n = go (asks_for w p) refl
  where
    -- the amount of the line, if its product is asked for
    amounts : (b : Bool) → asks_for w p ≡ b → amounts_at w x (ls ++ Dose x c a s p ∷ []) ≡ amounts_at w x ls ++ pick b (a ∷ []) []
    amounts b e = amounts-more w x ls (Dose x c a s p) ∙ ap (λ (d : Bool). amounts_at w x ls ++ pick (d && eqb x x) (a ∷ []) []) e ∙ ap (λ (d : Bool). amounts_at w x ls ++ pick d (a ∷ []) []) (and-true b (eqb x x) (eq-eqb x x refl))

    same-on : has_on x (ls ++ Dose x c a s p ∷ []) ≡ has_on x ls
    same-on = on-more x ls (Dose x c a s p) ∙ or-false (has_on x ls)

    go : (b : Bool) → asks_for w p ≡ b → unmarked_of w (ls ++ Dose x c a s p ∷ []) x ≡ pick b (with_dose (unmarked_of w ls x) a) (unmarked_of w ls x)
    go true e =
        tally-is w (ls ++ Dose x c a s p ∷ []) x (amounts_at w x ls ++ a ∷ []) (has_on x ls) (amounts true e ∙ ap (λ (d : List ℕ). amounts_at w x ls ++ d) (pick_true (a ∷ []) [])) same-on
        ∙ dose-more (amounts_at w x ls) (has_on x ls) a (omega (arith, (modest w x ls r).sum)) (omega (arith, (dose-range New x c a s p i).2))
        ∙ ap (λ (t : Tally). with_dose t a) (sym (tally-is w ls x (amounts_at w x ls) (has_on x ls) refl refl))
        ∙ sym (pick_true _ _)
    go false e =
        tally-is w (ls ++ Dose x c a s p ∷ []) x (amounts_at w x ls) (has_on x ls) (amounts false e ∙ ap (λ (d : List ℕ). amounts_at w x ls ++ d) (pick-false (a ∷ []) []) ∙ append-nil (amounts_at w x ls)) same-on
        ∙ sym (tally-is w ls x (amounts_at w x ls) (has_on x ls) refl refl)
        ∙ sym (pick-false _ _)
tally-here w ls (On x) r i n =
    tally-is w (ls ++ On x ∷ []) x (amounts_at w x ls) true
    (amounts-more w x ls (On x) ∙ append-nil (amounts_at w x ls))
    (on-more x ls (On x) ∙ ap (λ (b : Bool). has_on x ls || b) (eq-eqb x x refl) ∙ or-true (has_on x ls))
    ∙ ap with_on (sym (tally-is w ls x (amounts_at w x ls) (has_on x ls) refl refl))

-- a line of another hour is not
pub tally-there : (w : Products) (ls : List Line) (l : Line) (h : ℕ) → (hour_in l ≡ h → ⊥) → unmarked_of w (ls ++ l ∷ []) h ≡ unmarked_of w ls h
unfolding unmarked_of hour_in dose_at is_on
tally-there w ls (Dose x c a s p) h d =
    tally-is w (ls ++ Dose x c a s p ∷ []) h (amounts_at w h ls) (has_on h ls)
    (amounts-more w h ls (Dose x c a s p) ∙ ap (λ (d : List ℕ). amounts_at w h ls ++ d) (pick-f (asks_for w p && eqb x h) (a ∷ []) [] (and-false (asks_for w p) (eqb x h) (ne_eqb x h d))) ∙ append-nil (amounts_at w h ls))
    (on-more h ls (Dose x c a s p) ∙ or-false (has_on h ls))
tally-there w ls (On x) h d =
    tally-is w (ls ++ On x ∷ []) h (amounts_at w h ls) (has_on h ls)
    (amounts-more w h ls (On x) ∙ append-nil (amounts_at w h ls))
    (on-more h ls (On x) ∙ ap (λ (b : Bool). has_on h ls || b) (ne_eqb x h d) ∙ or-false (has_on h ls))

-- ---- a table with one line more

-- an hour of no line has no tally, whatever the first
pub unmarked-none : (w : Products) (table : List Tally) (f g : ℕ) → Unmarked w table f [] → Unmarked w table g []
unfolding unmarked_of amounts_at total greatest has_on
unmarked-none w table f g t = record { size = t.size; at = λ k b. t.at k b }

pub unmarked-start : (w : Products) (table : List Tally) (first : ℕ) → table ≡ replicate 744 no_tally → Unmarked w table first []
unfolding no_tally unmarked_of amounts_at total greatest has_on
unmarked-start w table first e =
    record { size = ap length e ∙ length-replicate 744 no_tally; at = λ k b. ap (λ (t : List Tally). get_or t k outside) e ∙ get_or-replicate 744 k no_tally outside b }

module _ (w : Products) (ls : List Line) (first : ℕ) (table : List Tally) (l : Line) (holds : Unmarked w table first ls) (low : first ≤ hour_in l) (high : hour_in l - first < 744) where
  abbrev pub spot : ℕ
  spot = hour_in l - first

  -- the table with the line counted in at its hour
  abbrev pub after : List Tally
  after = set table spot (counted w (get_or table spot outside) l)

  old : get_or table spot outside ≡ unmarked_of w ls (hour_in l)
  old = holds.at spot high ∙ ap (unmarked_of w ls) (omega arith)

  pub old-few : Ranged ls → (get_or table spot outside).doses ≤ length ls
  unfolding unmarked_of
  old-few ranged =
      let e : (get_or table spot outside).doses ≡ length (amounts_at w (hour_in l) ls) = ap (λ (t : Tally). t.doses) old in
      omega (arith, (modest w (hour_in l) ls ranged).few)

  pub unmarked-more : Ranged ls → in_range New l ≡ true → length ls ≤ 16384 → Unmarked w after first (ls ++ l ∷ [])
  unmarked-more ranged range few = record { size = length-set table spot _ ∙ holds.size; at = λ k b. go k b (ℕ_discrete (hour_in l) (first + k)) }
    where
      go : (k : ℕ) → k < 744 → Dec (hour_in l ≡ first + k) → get_or after k outside ≡ unmarked_of w (ls ++ l ∷ []) (first + k)
      go k b (yes e) =
          let p : spot ≡ k = omega arith in
          ap (λ (i : ℕ). get_or after i outside) (sym p)
          ∙ get_or-set_same table spot (counted w (get_or table spot outside) l) outside (omega (arith, holds.size))
          ∙ ap (λ (t : Tally). counted w t l) old
          ∙ sym (tally-here w ls l ranged range few)
          ∙ ap (unmarked_of w (ls ++ l ∷ [])) e
      go k b (no e) =
          get_or-set_other table spot k (counted w (get_or table spot outside) l) outside (λ p. e (omega arith))
          ∙ holds.at k b
          ∙ sym (tally-there w ls l (first + k) e)
