-- Settings and their ranges (document 01, "Settings and their ranges"; the product code is document 02's, W4). Assumes nothing.
use Rattle.std.specs.Prelude.{◌≡◌, refl, Bool, ◌&&◌, List, [], ◌∷◌, ℕ, suc, ◌-◌, ◌/◌, leb, length}
use Rattle.laws.specs.Pick.{pick}
use Rattle.paper.specs.Answer.{Answer, done, refused}
use Rattle.paper.specs.Numbers.{R2}
use Rattle.settings.specs.declared.Settings.{Settings}

-- a setting's value, its least and its greatest
pub record Row : Type 0 where
  pub value : ℕ
  pub least : ℕ
  pub most : ℕ

abbrev pub row : ℕ → ℕ → ℕ → Row
row v a b = record { value = v; least = a; most = b }

-- level M: AL0, AL1: 1..C/4 rounded down; AL2, AL3: D..C
unfoldable pub least_level : Settings → ℕ
least_level s = pick (leb s.algorithm 1) 1 s.dose

unfoldable pub most_level : Settings → ℕ
most_level s = pick (leb s.algorithm 1) (s.capacity / 4) s.capacity

-- the greatest capacity, and the most samples that a filter takes the mean of
abbrev pub capacity_most : ℕ
capacity_most = 99999

abbrev pub filter_most : ℕ
filter_most = 128

-- the greatest product code
abbrev pub product_most : ℕ
product_most = 255

-- One table lists each setting with its least and greatest value
unfoldable pub table : Settings → List Row
table s =
    -- algorithm: 0..3
    row s.algorithm 0 3
    -- capacity C: 1..99,999
    ∷ row s.capacity 1 capacity_most
    -- dose D: 1..C
    ∷ row s.dose 1 s.capacity
    -- coarse lead Pc: 0..D
    ∷ row s.pc 0 s.dose
    -- fine lead Pf: 0..Pc
    ∷ row s.pf 0 s.pc
    -- level M: AL0, AL1: 1..C/4 rounded down; AL2, AL3: D..C
    ∷ row s.level (least_level s) (most_level s)
    -- filter coarse p7: 4..128
    ∷ row s.p7 4 filter_most
    -- filter fine p8: p7..128
    ∷ row s.p8 s.p7 filter_most
    -- settle time p9: 1..63
    ∷ row s.p9 1 63
    -- sum p11 (0 unloaded, 1 loaded): 0..1
    ∷ row s.p11 0 1
    -- both gates at once o: 0..1
    ∷ row s.o 0 1
    -- levels in1, in2, in3: 0..1 each
    ∷ row s.in1 0 1
    ∷ row s.in2 0 1
    ∷ row s.in3 0 1
    -- address: 1..127
    ∷ row s.address 1 127
    -- serial: 0..16,777,215
    ∷ row s.serial 0 16777215
    -- decimal point: 0..3
    ∷ row s.point 0 3
    -- product code: 0..255 as their last entry (document 02, W4)
    ∷ row s.product 0 product_most
    ∷ []

unfoldable pub in_range : Row → Bool
in_range r = leb r.least r.value && leb r.value r.most

-- a set is checked in this order and the first bad one is named: the rows from number n on
unfoldable pub first_from : ℕ → List Row → Answer (Unit {0})
first_from n [] = done tt
first_from n (r ∷ rs) = pick (in_range r) (first_from (suc n) rs) (refused R2 (n ∷ []))

-- R2: a setting out of range; names it by its row, counted from 1
unfoldable pub first_bad : Settings → Answer (Unit {0})
first_bad s = first_from 1 (table s)

-- Wc = D-Pc, Wf = D-Pf
unfoldable pub wc : Settings → ℕ
wc s = s.dose - s.pc

unfoldable pub wf : Settings → ℕ
wf s = s.dose - s.pf

-- a default set: AL0, C 10,000, D 100, Pc 0, Pf 0, M 100, p7 4, p8 4, p9 1, address 1, the rest 0
unfoldable pub default_set : Settings
default_set =
    record {
      algorithm = 0;
      capacity = 10000;
      dose = 100;
      pc = 0;
      pf = 0;
      level = 100;
      p7 = 4;
      p8 = 4;
      p9 = 1;
      p11 = 0;
      o = 0;
      in1 = 0;
      in2 = 0;
      in3 = 0;
      address = 1;
      serial = 0;
      point = 0;
      product = 0;
    }

pub default-good : first_bad default_set ≡ done tt
unfolding first_bad first_from table default_set in_range least_level most_level pick
default-good = refl

-- 18 settings
pub eighteen : (s : Settings) → length (table s) ≡ 18
unfolding table
eighteen s = refl
