-- When an hour is printed M, I or X, and what its lines then are. Assumes nothing.
use Rattle.std.specs.Prelude.{◌≡◌, refl, Bool, true, false, ◌&&◌, ◌||◌, ◌⊎◌, ℕ, eqb, length}
use Rattle.std.proofs.Common.{sym, ap, ◌∙◌, inl, inr, arith, eqb-true, eq-eqb}
use mathlib.Core.List.Memᴰ
use mathlib.Core.List.{List, [], ◌∷◌, ◌++◌, Memᴰ}
use Rattle.std.specs.Float.{binary64}
use Rattle.std.specs.Float.Ieee.{to_bits}
use Rattle.laws.specs.Pick.{pick, pick-t, pick-f}
use Rattle.laws.specs.Bools.{and_left, and_right}
use Rattle.laws.specs.Whole.{false-true}
use Rattle.journal.specs.declared.Line.{Line}
use Rattle.journal.specs.declared.Line.TheVariants.{Dose, On}
use Rattle.holes.specs.Holes.{in_hole}
use Rattle.holes.specs.HoleLaws.{Exactly}
use Rattle.hourly.specs.declared.Products.{Products}
use Rattle.hourly.specs.Hours.{missing, asks_for, dose_at, amounts_at, is_on, has_on, total, mean_of, measured_or_idle, hour_of}
use Rattle.hourly.specs.Text.{Row, row_m, row_i, row_x, row_from, row_of}

-- what is printed of an hour that lies in a hole or in none, has an H or has none, with the amounts of its D lines
abbrev row_by : Bool → Bool → List ℕ → Row
row_by hole on amounts = row_from (pick hole missing (pick on (measured_or_idle amounts) missing)) amounts

-- an hour prints I exactly if it lies in no hole, and the journal has its H and no D of it
pub idle-exactly : (w : Products) (ls : List Line) (h : ℕ) → Exactly (row_of w ls h ≡ row_i) ((in_hole h ls ≡ false) × (has_on h ls ≡ true) × (amounts_at w h ls ≡ []))
unfolding row_of row_from hour_of measured_or_idle pick
idle-exactly w ls h = (only (in_hole h ls) (has_on h ls) (amounts_at w h ls), λ e. rw (e.0, e.1, e.2))
  where
    only : (hole on : Bool) (amounts : List ℕ) → row_by hole on amounts ≡ row_i → (hole ≡ false) × (on ≡ true) × (amounts ≡ [])
    only true on amounts e = let z : ◌≡◌ {A = ℕ} 0 1 = cc in absurd (omega arith)
    only false true [] e = (refl, refl, refl)
    only false true (a ∷ as') e = let z : ◌≡◌ {A = ℕ} 0 1 = cc in absurd (omega arith)
    only false false amounts e = let z : ◌≡◌ {A = ℕ} 0 1 = cc in absurd (omega arith)

-- X exactly if it lies in a hole or has no H of it
pub missing-exactly : (w : Products) (ls : List Line) (h : ℕ) → Exactly (row_of w ls h ≡ row_x) ((in_hole h ls ≡ true) ⊎ (has_on h ls ≡ false))
unfolding row_of row_from hour_of measured_or_idle pick
missing-exactly w ls h = (only (in_hole h ls) (has_on h ls) (amounts_at w h ls), made (in_hole h ls) (has_on h ls) (amounts_at w h ls))
  where
    only : (hole on : Bool) (amounts : List ℕ) → row_by hole on amounts ≡ row_x → (hole ≡ true) ⊎ (on ≡ false)
    only true on amounts e = inl refl
    only false true [] e = let z : ◌≡◌ {A = ℕ} 0 1 = cc in absurd (omega arith)
    only false true (a ∷ as') e = let z : ◌≡◌ {A = ℕ} 0 1 = cc in absurd (omega arith)
    only false false amounts e = inr refl

    made : (hole on : Bool) (amounts : List ℕ) → (hole ≡ true) ⊎ (on ≡ false) → row_by hole on amounts ≡ row_x
    made true on amounts e = refl
    made false on amounts (inl e) = false-true e
    made false on amounts (inr e) = rw e

-- what is printed of a measured hour
abbrev pub measured_row : List ℕ → Row
measured_row amounts = row_m (length amounts) (total amounts) (to_bits binary64 (mean_of amounts))

-- M, with the number of its doses, their sum and the mean's bits, exactly if it lies in no hole and has its H and a D of it
pub measured-exactly : (w : Products) (ls : List Line) (h : ℕ) → Exactly (row_of w ls h ≡ measured_row (amounts_at w h ls)) ((in_hole h ls ≡ false) × (has_on h ls ≡ true) × (amounts_at w h ls ≡ [] → ⊥))
unfolding row_of row_from hour_of measured_or_idle pick
measured-exactly w ls h = (only (in_hole h ls) (has_on h ls) (amounts_at w h ls), λ e. rw (e.0, e.1) (made (amounts_at w h ls) e.2))
  where
    only : (hole on : Bool) (amounts : List ℕ) → row_by hole on amounts ≡ measured_row amounts → (hole ≡ false) × (on ≡ true) × (amounts ≡ [] → ⊥)
    only true on amounts e = let z : ◌≡◌ {A = ℕ} 0 1 = cc in absurd (omega arith)
    only false true [] e = let z : ◌≡◌ {A = ℕ} 0 1 = cc in absurd (omega arith)
    only false true (a ∷ as') e = (refl, refl, λ f. let z : ◌≡◌ {A = ℕ} 0 1 = cc in omega arith)
    only false false amounts e = let z : ◌≡◌ {A = ℕ} 0 1 = cc in absurd (omega arith)

    made : (amounts : List ℕ) → (amounts ≡ [] → ⊥) → row_by false true amounts ≡ measured_row amounts
    made [] f = absurd (f refl)
    made (a ∷ as') f = refl

-- an M is printed of no other hour, and with no other numbers
pub measured-only : (w : Products) (ls : List Line) (h doses sum bits : ℕ) → row_of w ls h ≡ row_m doses sum bits → row_m doses sum bits ≡ measured_row (amounts_at w h ls)
unfolding row_of row_from hour_of measured_or_idle pick
measured-only w ls h doses sum bits = only (in_hole h ls) (has_on h ls) (amounts_at w h ls)
  where
    only : (hole on : Bool) (amounts : List ℕ) → row_by hole on amounts ≡ row_m doses sum bits → row_m doses sum bits ≡ measured_row amounts
    only true on amounts e = let z : ◌≡◌ {A = ℕ} 0 1 = cc in absurd (omega arith)
    only false true [] e = let z : ◌≡◌ {A = ℕ} 0 1 = cc in absurd (omega arith)
    only false true (a ∷ as') e = sym e
    only false false amounts e = let z : ◌≡◌ {A = ℕ} 0 1 = cc in absurd (omega arith)

-- no hour in a hole is measured or idle
pub hole-missing : (w : Products) (ls : List Line) (h : ℕ) → in_hole h ls ≡ true → hour_of w ls h ≡ missing
unfolding hour_of
hole-missing w ls h e = pick-t (in_hole h ls) missing _ e

-- an hour in no hole is as document 01 has it
pub hole-free : (w : Products) (ls : List Line) (h : ℕ) → in_hole h ls ≡ false → hour_of w ls h ≡ pick (has_on h ls) (measured_or_idle (amounts_at w h ls)) missing
unfolding hour_of
hole-free w ls h e = pick-f (in_hole h ls) missing _ e

is-on : (h : ℕ) (l : Line) → is_on h l ≡ true → On h ≡ l
unfolding is_on
is-on h (Dose x c a s p) e = false-true e
is-on h (On x) e = ap On (sym (eqb-true x h e))

on-member : (h : ℕ) (ls : List Line) → has_on h ls ≡ true → Memᴰ (On h) ls
unfolding has_on
on-member h [] e = false-true e
on-member h (l ∷ ls) e = go (is_on h l) refl e (on-member h ls)
  where
    go : (b : Bool) → is_on h l ≡ b → (b || has_on h ls) ≡ true → (has_on h ls ≡ true → Memᴰ (On h) ls) → Memᴰ (On h) (l ∷ ls)
    go true p e rest = Memᴰ.head (is-on h l p)
    go false p e rest = Memᴰ.tail (rest e)

member-on : (h : ℕ) (ls : List Line) → Memᴰ (On h) ls → has_on h ls ≡ true
unfolding has_on is_on
member-on h [] m = absurd (Memᴰ.not-nil m)
member-on h (l ∷ ls) m = go (Memᴰ.cases_cons m) (member-on h ls)
  where
    either : (b : Bool) → (b || true) ≡ true
    either true = refl
    either false = refl

    go : (On h ≡ l) ⊎ Memᴰ (On h) ls → (Memᴰ (On h) ls → has_on h ls ≡ true) → has_on h (l ∷ ls) ≡ true
    go (inl e) rest = ap (λ (k : Line). is_on h k || has_on h ls) (sym e) ∙ ap (λ (b : Bool). b || has_on h ls) (eq-eqb h h refl)
    go (inr n) rest = ap (λ (b : Bool). is_on h l || b) (rest n) ∙ either (is_on h l)

-- an hour has an H exactly if its H is a line of the journal
pub on-exactly : (ls : List Line) (h : ℕ) → Exactly (has_on h ls ≡ true) (Memᴰ (On h) ls)
on-exactly ls h = (on-member h ls, member-on h ls)

some : (a : ℕ) (x : List ℕ) → a ∷ x ≡ [] → ⊥
some a x e = let z : ◌≡◌ {A = ℕ} 0 1 = cc in omega arith

-- no D of hour h, of a product that is asked for, is among the lines
abbrev pub NoDose : Products → ℕ → List Line → Type 0
NoDose w h ls = (c a s p : ℕ) → asks_for w p ≡ true → Memᴰ (Dose h c a s p) ls → ⊥

none-member : (w : Products) (h : ℕ) (ls : List Line) → amounts_at w h ls ≡ [] → NoDose w h ls
unfolding amounts_at dose_at pick
none-member w h [] e c a s p q m = Memᴰ.not-nil m
none-member w h (l ∷ ls) e c a s p q m = go (Memᴰ.cases_cons m) (λ e. none-member w h ls e c a s p q)
  where
    after : (d x : List ℕ) → d ++ x ≡ [] → x ≡ []
    after [] x e = e
    after (y ∷ ys) x e = absurd (some y (ys ++ x) e)

    asked : (asks_for w p && eqb h h) ≡ true
    asked = ap (λ (b : Bool). b && eqb h h) q ∙ eq-eqb h h refl

    go : (Dose h c a s p ≡ l) ⊎ Memᴰ (Dose h c a s p) ls → (amounts_at w h ls ≡ [] → Memᴰ (Dose h c a s p) ls → ⊥) → ⊥
    go (inl t) rest = some a (amounts_at w h ls) (ap (λ (b : Bool). pick b (a ∷ []) [] ++ amounts_at w h ls) (sym asked) ∙ ap (λ (k : Line). dose_at w h k ++ amounts_at w h ls) t ∙ e)
    go (inr n) rest = rest (after (dose_at w h l) (amounts_at w h ls) e) n

member-none : (w : Products) (h : ℕ) (ls : List Line) → NoDose w h ls → amounts_at w h ls ≡ []
unfolding amounts_at dose_at pick
member-none w h [] f = refl
member-none w h (Dose x c a s p ∷ ls) f = go (asks_for w p && eqb x h) refl (member-none w h ls (λ c a s p q m. f c a s p q (Memᴰ.tail m)))
  where
    go : (b : Bool) → (asks_for w p && eqb x h) ≡ b → amounts_at w h ls ≡ [] → pick b (a ∷ []) [] ++ amounts_at w h ls ≡ []
    go true t e = absurd (f c a s p (and_left _ _ t) (Memᴰ.head (ap (λ (y : ℕ). Dose y c a s p) (sym (eqb-true x h (and_right (asks_for w p) _ t))))))
    go false t e = e
member-none w h (On x ∷ ls) f = member-none w h ls (λ c a s p q m. f c a s p q (Memᴰ.tail m))

-- an hour has no amounts exactly if no D of it, of a product that is asked for, is a line of the journal
pub none-exactly : (w : Products) (ls : List Line) (h : ℕ) → Exactly (amounts_at w h ls ≡ []) (NoDose w h ls)
none-exactly w ls h = (none-member w h ls, member-none w h ls)
