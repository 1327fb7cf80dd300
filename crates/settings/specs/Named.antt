-- The check names the first setting that is out of its range, and accepts a set with none. Assumes nothing.
use Rattle.std.specs.Prelude.{◌≡◌, refl, Bool, true, false, ◌&&◌, List, [], ◌∷◌, ◌⊎◌, ℕ, zero, suc, ◌+◌, ◌-◌, ◌≤◌, ◌<◌, leb, length, get_or, take, drop}
use Rattle.std.proofs.Common.{sym, ap, subst, ◌∙◌, inl, inr, ⊎_elim, add-zero, add-suc, suc-add, le_of_suc-le-suc, not-suc-le-zero, arith, leb-true, leb-false, le-leb}
use Rattle.std.proofs.Math.Bool.{and-false}
use Rattle.std.proofs.lemmas.Bool.{lt-leb}
use Rattle.laws.specs.Pick.{pick-t, pick-f}
use Rattle.laws.specs.Whole.{true-false, false-true}
use Rattle.paper.specs.Answer.{done, refused}
use Rattle.paper.specs.Numbers.{R2}
use Rattle.settings.specs.Table.{Row, row, table, in_range, first_from, first_bad, eighteen}
use Rattle.settings.specs.declared.Settings.{Settings}

-- the row's value is in its range
abbrev pub In : Row → Type 0
In r = (r.least ≤ r.value) × (r.value ≤ r.most)

-- the row's value is below its least or above its greatest
abbrev pub Out : Row → Type 0
Out r = (r.value < r.least) ⊎ (r.most < r.value)

-- row n of the table, where 1 is the first
abbrev pub row_number : Settings → ℕ → Row
row_number s n = get_or (table s) (n - 1) (row 0 0 0)

-- row n is out of range, and every row before it is in range
pub record FirstOut (s : Settings) (n : ℕ) : Type 0 where
  pub from : 1 ≤ n
  pub to : n ≤ 18
  pub out : Out (row_number s n)
  pub before : (k : ℕ) → 1 ≤ k → k < n → In (row_number s k)

both_true : (a b : Bool) → (a && b) ≡ true → (a ≡ true) × (b ≡ true)
both_true true true h = (refl, refl)
both_true true false h = false-true h
both_true false b h = false-true h

one-false : (a b : Bool) → (a && b) ≡ false → (a ≡ false) ⊎ (b ≡ false)
one-false true true h = true-false h
one-false true false h = inr refl
one-false false b h = inl refl

-- the test of a row, as a fact of its numbers
pub in-true : (r : Row) → In r → in_range r ≡ true
unfolding in_range
in-true r h = rw (le-leb r.least r.value h.0, le-leb r.value r.most h.1) refl

pub true-in : (r : Row) → in_range r ≡ true → In r
unfolding in_range
true-in r h =
    let t = both_true (leb r.least r.value) (leb r.value r.most) h in
    (leb-true r.least r.value t.0, leb-true r.value r.most t.1)

pub out-false : (r : Row) → Out r → in_range r ≡ false
unfolding in_range
out-false r (inl h) = rw (lt-leb r.least r.value h) refl
out-false r (inr h) = rw (lt-leb r.value r.most h) (and-false (leb r.least r.value))

pub false-out : (r : Row) → in_range r ≡ false → Out r
unfolding in_range
false-out r h =
    ⊎_elim
    (λ t. inl (leb-false r.least r.value t))
    (λ t. inr (leb-false r.value r.most t))
    (one-false (leb r.least r.value) (leb r.value r.most) h)

-- one row of the check
pub goes_on : (n : ℕ) (r : Row) (rs : List Row) → In r → first_from n (r ∷ rs) ≡ first_from (suc n) rs
unfolding first_from
goes_on n r rs h = pick-t (in_range r) (first_from (suc n) rs) (refused R2 (n ∷ [])) (in-true r h)

pub stops : (n : ℕ) (r : Row) (rs : List Row) → Out r → first_from n (r ∷ rs) ≡ refused R2 (n ∷ [])
unfolding first_from
stops n r rs h = pick-f (in_range r) (first_from (suc n) rs) (refused R2 (n ∷ [])) (out-false r h)

in-or-out : (r : Row) → In r ⊎ Out r
in-or-out r = by-test (in_range r) refl
  where
    by-test : (t : Bool) → in_range r ≡ t → In r ⊎ Out r
    by-test true e = inl (true-in r e)
    by-test false e = inr (false-out r e)

-- every row is in range
abbrev pub AllIn : List Row → Type 0
AllIn [] = Unit {0}
AllIn (r ∷ rs) = In r × AllIn rs

pub all_join : (k : ℕ) (l : List Row) → AllIn (take k l) → AllIn (drop k l) → AllIn l
all_join zero l a b = b
all_join (suc k) [] a b = tt
all_join (suc k) (r ∷ rs) a b = (a.0, all_join k rs a.1 b)

pub good-all : (n : ℕ) (l : List Row) → first_from n l ≡ done tt → AllIn l
good-all n [] e = tt
good-all n (r ∷ rs) e =
    ⊎_elim
    (λ h. (h, good-all (suc n) rs (sym (goes_on n r rs h) ∙ e)))
    (λ h. let z : ◌≡◌ {A = ℕ} 0 1 = cc (stops n r rs h) in let f : ⊥ = omega arith in absurd f)
    (in-or-out r)

pub all-good : (n : ℕ) (l : List Row) → AllIn l → first_from n l ≡ done tt
unfolding first_from
all-good n [] h = refl
all-good n (r ∷ rs) h = goes_on n r rs h.0 ∙ all-good (suc n) rs h.1

-- in any list of rows, where 0 is the first: row k is out of range, and every row before it is in range
record FirstAt (l : List Row) (k : ℕ) : Type 0 where
  within : k < length l
  out : Out (get_or l k (row 0 0 0))
  before : (j : ℕ) → j < k → In (get_or l j (row 0 0 0))

here : (r : Row) (rs : List Row) → Out r → FirstAt (r ∷ rs) 0
here r rs h = record { within = omega arith; out = h; before = λ j b. absurd (not-suc-le-zero b) }

later-in : (r : Row) (rs : List Row) (k : ℕ) → In r → FirstAt rs k → (j : ℕ) → j < suc k → In (get_or (r ∷ rs) j (row 0 0 0))
later-in r rs k h f zero b = h
later-in r rs k h f (suc j) b = f.before j (le_of_suc-le-suc b)

later : (r : Row) (rs : List Row) (k : ℕ) → In r → FirstAt rs k → FirstAt (r ∷ rs) (suc k)
later r rs k h f = record { within = omega (arith, f.within); out = f.out; before = later-in r rs k h f }

named-at : (n m : ℕ) (l : List Row) → first_from n l ≡ refused R2 (m ∷ []) → (n ≤ m) × FirstAt l (m - n)
unfolding first_from
named-at n m [] e = let z : ◌≡◌ {A = ℕ} 0 1 = cc in let f : ⊥ = omega arith in absurd f
named-at n m (r ∷ rs) e =
    ⊎_elim
    (λ h.
    let w = named-at (suc n) m rs (sym (goes_on n r rs h) ∙ e) in
    let a : n ≤ m = omega (arith, w.0) in
    let p : suc (m - suc n) ≡ m - n = omega (arith, w.0) in
    (a, subst (FirstAt (r ∷ rs)) p (later r rs (m - suc n) h w.1)))
    (λ h.
    let p : n ≡ m = cc (stops n r rs h) in
    let a : n ≤ m = omega arith in
    let q : 0 ≡ m - n = omega arith in
    (a, subst (FirstAt (r ∷ rs)) q (here r rs h)))
    (in-or-out r)

at_named : (n k : ℕ) (l : List Row) → FirstAt l k → first_from n l ≡ refused R2 ((n + k) ∷ [])
at_named n k [] f = absurd (not-suc-le-zero f.within)
at_named n zero (r ∷ rs) f = stops n r rs f.out ∙ rw add-zero refl
at_named n (suc k) (r ∷ rs) f =
    goes_on n r rs (f.before 0 (omega arith))
    ∙ at_named (suc n) k rs (record { within = le_of_suc-le-suc f.within; out = f.out; before = λ j b. f.before (suc j) (omega arith) })
    ∙ rw (add-suc, suc-add) refl

-- the setting that the check names is the first that is out of its range
pub bad-named : (s : Settings) (n : ℕ) → first_bad s ≡ refused R2 (n ∷ []) → FirstOut s n
unfolding first_bad
bad-named s n e =
    let w = named-at 1 n (table s) e in
    record {
      from = w.0;
      to = omega (arith, w.0, w.1.within, eighteen s);
      out = w.1.out;
      before = λ k a b. w.1.before (k - 1) (omega arith);
    }

-- and the first that is out of its range is named
pub named-bad : (s : Settings) (n : ℕ) → FirstOut s n → first_bad s ≡ refused R2 (n ∷ [])
unfolding first_bad
named-bad s n f =
    let p : 1 + (n - 1) ≡ n = omega (arith, f.from) in
    at_named 1 (n - 1) (table s) (record {
      within = omega (arith, f.from, f.to, eighteen s);
      out = f.out;
      before = λ j b. let p : suc j - 1 ≡ j = omega arith in rw p at (f.before (suc j) (omega arith) (omega arith));
    })
    ∙ ap (λ (m : ℕ). refused R2 (m ∷ [])) p
