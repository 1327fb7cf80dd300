-- Lists made by an index, and what holds of each element. Assumes nothing.
use Rattle.std.specs.Prelude.{◌≡◌, refl, List, [], ◌∷◌, ◌++◌, map, ℕ, zero, suc, ◌+◌, ◌*◌, ◌<◌, length, get_or}
use Rattle.std.proofs.Common.{sym, ap, ap₂, ◌∙◌, arith, length-append}
use Rattle.std.proofs.lemmas.List.{map-append}
use Rattle.std.proofs.Math.Decide.{dec_lt}
use Rattle.hourly.specs.Hours.{HourAnswer}
use Rattle.weekly.specs.Week.{list_of, day_by, week_by}
use Rattle.weekly.specs.Counted.{Each}

pub list_length : {A : Type 0} (f : ℕ → A) (n : ℕ) → length (list_of f n) ≡ n
unfolding list_of
list_length f zero = refl
list_length f (suc n) = omega (arith, length-append (list_of f n) (f n ∷ []), list_length f n)

-- lists by two functions that are the same at each place
pub list_same : {A : Type 0} (f g : ℕ → A) (n : ℕ) → ((k : ℕ) → f k ≡ g k) → list_of f n ≡ list_of g n
unfolding list_of
list_same f g zero e = refl
list_same {A} f g (suc n) e = ap₂ (λ (l : List A) (x : A). l ++ (x ∷ [])) (list_same f g n e) (e n)

pub list-map : {A B : Type 0} (g : A → B) (f : ℕ → A) (n : ℕ) → map g (list_of f n) ≡ list_of (λ (k : ℕ). g (f k)) n
unfolding list_of
list-map g f zero = refl
list-map {A} {B} g f (suc n) = map-append g (list_of f n) (f n ∷ []) ∙ ap (λ (l : List B). l ++ (g (f n) ∷ [])) (list-map g f n)

last-at : {A : Type 0} (xs : List A) (x d : A) → get_or (xs ++ (x ∷ [])) (length xs) d ≡ x
last-at [] x d = refl
last-at (y ∷ xs) x d = last-at xs x d

front_at : {A : Type 0} (xs ys : List A) (k : ℕ) (d : A) → k < length xs → get_or (xs ++ ys) k d ≡ get_or xs k d
front_at [] ys k d h = absurd (omega arith)
front_at (x ∷ xs) ys zero d h = refl
front_at (x ∷ xs) ys (suc k) d h = front_at xs ys k d (omega arith)

-- the element at a place
pub list_at : {A : Type 0} (f : ℕ → A) (n k : ℕ) (d : A) → k < n → get_or (list_of f n) k d ≡ f k
unfolding list_of
list_at f zero k d h = absurd (omega arith)
list_at {A} f (suc n) k d h =
    elim (dec_lt k n) [
      | yes l ↦ front_at (list_of f n) (f n ∷ []) k d (omega (arith, list_length f n)) ∙ list_at f n k d l
      | no l ↦
          let e : k ≡ n = omega arith in
          ap (λ (i : ℕ). get_or (list_of f n ++ (f n ∷ [])) i d) (e ∙ sym (list_length f n)) ∙ last-at (list_of f n) (f n) d ∙ ap f (sym e)
    ]

-- ---- what holds of each element

each_snoc : {A : Type 0} (P : A → Type 0) (xs : List A) (x : A) → Each P xs → P x → Each P (xs ++ (x ∷ []))
each_snoc P [] x a p = (p, tt)
each_snoc P (y ∷ xs) x a p = (a.0, each_snoc P xs x a.1 p)

pub each-list : {A : Type 0} (P : A → Type 0) (f : ℕ → A) (n : ℕ) → ((k : ℕ) → P (f k)) → Each P (list_of f n)
unfolding list_of
each-list P f zero p = tt
each-list P f (suc n) p = each_snoc P (list_of f n) (f n) (each-list P f n p) (p n)

-- what each element is, the one at a place is
pub each_at : {A : Type 0} (P : A → Type 0) (xs : List A) (k : ℕ) (d : A) → Each P xs → k < length xs → P (get_or xs k d)
each_at P [] k d a h = absurd (omega arith)
each_at P (x ∷ xs) zero d a h = a.0
each_at P (x ∷ xs) (suc k) d a h = each_at P xs k d a.1 (omega arith)

-- ---- a week by its hours

pub week-same : (f g : ℕ → HourAnswer) (first : ℕ) → ((h : ℕ) → f h ≡ g h) → week_by f first ≡ week_by g first
unfolding week_by day_by
week-same f g first e =
    list_same (λ (d : ℕ). list_of (λ (k : ℕ). f (first + 24 * d + k)) 24) (λ (d : ℕ). list_of (λ (k : ℕ). g (first + 24 * d + k)) 24) 7
    (λ d. list_same (λ (k : ℕ). f (first + 24 * d + k)) (λ (k : ℕ). g (first + 24 * d + k)) 24 (λ k. e (first + 24 * d + k)))

-- what each hour is, each hour of the week is
pub week-each : (P : HourAnswer → Type 0) (f : ℕ → HourAnswer) (first : ℕ) → ((h : ℕ) → P (f h)) → Each (Each P) (week_by f first)
unfolding week_by day_by
week-each P f first p =
    each-list (Each P) (λ (d : ℕ). list_of (λ (k : ℕ). f (first + 24 * d + k)) 24) 7
    (λ d. each-list P (λ (k : ℕ). f (first + 24 * d + k)) 24 (λ k. p (first + 24 * d + k)))
