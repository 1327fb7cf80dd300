-- A number read at a place of some bytes, with a tab before it or without. Assumes nothing.
use Rattle.std.specs.Prelude.{◌≡◌, Bool, Option, Some, None, List, [], ◌∷◌, ℕ, ◌≤◌, min, eqb, length, get_or, drop}
use Rattle.laws.specs.Pick.{pick}
use Rattle.laws.specs.Decimal.{Parsed, good, bad, is_digit, number_at}

-- LF and the tab
abbrev pub LF : ℕ
LF = 10

abbrev pub TAB : ℕ
TAB = 9

-- the byte b has to stand next
unfoldable pub expect : {X : Type 0} → ℕ → List ℕ → (List ℕ → Parsed X) → Parsed X
expect b [] next = bad
expect b (x ∷ xs) next = let rest = next xs in pick (eqb x b) rest bad

-- where a value is good, go on behind it
unfoldable pub on_good : {X Y : Type 0} → Parsed X → (X → List ℕ → Parsed Y) → Parsed Y
on_good (good v rest) next = next v rest
on_good bad next = bad

-- a tab and a number
unfoldable pub field_at : ℕ → List ℕ → Parsed ℕ
field_at most l = expect TAB l (number_at most)

-- a number that was read, its value and the place after it, or none
abbrev pub Num : Type 0
Num = Option (ℕ × ℕ)

-- the value, and the bytes of s that follow it
abbrev pub leads : List ℕ → Num → Parsed ℕ
leads s (Some (v, next)) = good v (drop next s)
leads s None = bad

abbrev pub place_after : Num → ℕ
place_after (Some (v, next)) = next
place_after None = 0

-- a reader that answers what a rule reads somewhere in s, by a place of s
pub record Scans (s : List ℕ) (rule : Parsed ℕ) (r : Num) : Type 0 where
  pub reads : rule ≡ leads s r
  pub inside : place_after r ≤ length s

-- what each call's result has to meet
abbrev pub IsLeast : ℕ → ℕ → ℕ → Type 0
IsLeast a b r = r ≡ min a b

abbrev pub StandsAt : List ℕ → ℕ → ℕ → Type 0
StandsAt s at r = r ≡ get_or s at 0

abbrev pub TellsDigit : ℕ → Bool → Type 0
TellsDigit b r = r ≡ is_digit b

abbrev pub ReadsNumber : List ℕ → ℕ → ℕ → Num → Type 0
ReadsNumber s at most r = Scans s (number_at most (drop at s)) r

abbrev pub ReadsField : List ℕ → ℕ → ℕ → Num → Type 0
ReadsField s at most r = Scans s (field_at most (drop at s)) r
