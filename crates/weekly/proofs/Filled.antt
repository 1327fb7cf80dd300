-- A local array of n elements that a loop fills from its start, whatever the elements are: hours, rows, days or structs of them. Assumes nothing.
use mathlib.Core.Path.{◌≡◌, refl, sym, ap, ◌∙◌}
use mathlib.Core.List.{List, [], ◌∷◌, ◌++◌, map, map-append}
use Prim.Native.Nat.{ℕ, zero, suc, ◌+◌, ◌≤◌, ◌<◌}
use native.Mathlib.Numerals.{add-one}
use native.Mathlib.Omega.{arith}
use lib.ListN.{length, get_or, take, set, length-set}
use lib.Seq.{take_all, take-suc, take-suc-set}
use Rattle.weekly.specs.Week.{list_of}

-- of the first i of n places g makes f 0, f 1, ..
pub record Filled {A B : Type 0} (g : A → B) (f : ℕ → B) (n i : ℕ) (xs : List A) : Type 0 where
  pub size : length xs ≡ n
  pub few : i ≤ n
  pub front : map g (take i xs) ≡ list_of f i

pub filled_none : {A B : Type 0} (g : A → B) (f : ℕ → B) (n : ℕ) (xs : List A) → length xs ≡ n → Filled g f n 0 xs
unfolding list_of
filled_none g f n xs h = record { size = h; few = omega arith; front = refl }

pub filled_more : {A B : Type 0} (g : A → B) (f : ℕ → B) (n i : ℕ) (xs : List A) (x : A) → Filled g f n i xs → i < n → g x ≡ f i → Filled g f n (i + 1) (set xs i x)
unfolding list_of
filled_more {A} {B} g f n i xs x r h e =
    let size = r.size in
    record {
      size = length-set xs i x ∙ size;
      few = omega arith;
      front =
          rw (add-one i)
          (ap (map g) (take-suc-set xs i x (omega arith))
          ∙ map-append g (take i xs) (x ∷ [])
          ∙ ap (λ (l : List B). l ++ (g x ∷ [])) r.front
          ∙ ap (λ (y : B). list_of f i ++ (y ∷ [])) e);
    }

pub filled-all : {A B : Type 0} (g : A → B) (f : ℕ → B) (n i : ℕ) (xs : List A) → Filled g f n i xs → n ≤ i → map g xs ≡ list_of f n
filled-all g f n i xs r h =
    let size = r.size in
    let few = r.few in
    let e : i ≡ n = omega arith in
    ap (map g) (sym (take_all i xs (omega arith))) ∙ r.front ∙ ap (list_of f) e

-- the first i of n places hold what g makes of a list's elements
pub record Mapped {A B : Type 0} (g : A → B) (ws : List A) (n i : ℕ) (xs : List B) : Type 0 where
  pub size : length xs ≡ n
  pub source : length ws ≡ n
  pub few : i ≤ n
  pub front : take i xs ≡ map g (take i ws)

pub mapped-none : {A B : Type 0} (g : A → B) (ws : List A) (n : ℕ) (xs : List B) → length xs ≡ n → length ws ≡ n → Mapped g ws n 0 xs
mapped-none g ws n xs h k = record { size = h; source = k; few = omega arith; front = refl }

-- d is what the checker puts for an element past the end
pub mapped-more : {A B : Type 0} (g : A → B) (ws : List A) (n i : ℕ) (xs : List B) (x : B) (d : A) → Mapped g ws n i xs → i < n → x ≡ g (get_or ws i d) → Mapped g ws n (i + 1) (set xs i x)
mapped-more {A} {B} g ws n i xs x d r h e =
    let size = r.size in
    let source = r.source in
    record {
      size = length-set xs i x ∙ size;
      source = source;
      few = omega arith;
      front =
          rw (add-one i)
          (take-suc-set xs i x (omega arith)
          ∙ ap (λ (l : List B). l ++ (x ∷ [])) r.front
          ∙ ap (λ (y : B). map g (take i ws) ++ (y ∷ [])) e
          ∙ sym (map-append g (take i ws) (get_or ws i d ∷ []))
          ∙ ap (map g) (sym (take-suc ws i d (omega arith))));
    }

pub mapped-all : {A B : Type 0} (g : A → B) (ws : List A) (n i : ℕ) (xs : List B) → Mapped g ws n i xs → n ≤ i → xs ≡ map g ws
mapped-all g ws n i xs r h =
    let size = r.size in
    let source = r.source in
    sym (take_all i xs (omega arith)) ∙ r.front ∙ ap (map g) (take_all i ws (omega arith))

-- what g makes of the element at a place
pub at_map : {A B : Type 0} (g : A → B) (xs : List A) (k : ℕ) (d : A) (e : B) → k < length xs → get_or (map g xs) k e ≡ g (get_or xs k d)
at_map g [] k d e h = absurd (omega arith)
at_map g (x ∷ xs) zero d e h = refl
at_map g (x ∷ xs) (suc k) d e h = at_map g xs k d e (omega arith)
