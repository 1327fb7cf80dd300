-- The check run on numbers. Assumes nothing.
use Rattle.std.specs.Prelude.{◌≡◌, refl, List, [], ◌∷◌, map, ℕ, zero, suc, ◌-◌, get_or, set}
use Rattle.std.proofs.Common.{inl, inr, arith}
use Rattle.laws.specs.Pick.{pick, pick-f}
use Rattle.paper.specs.Answer.{Answer, done, refused}
use Rattle.paper.specs.Numbers.{R2}
use Rattle.settings.specs.Table.{row, table, least_level, most_level, in_range, first_from, first_bad, default_set}
use Rattle.settings.specs.Columns.{value_of}
use Rattle.settings.specs.Named.{Out, out-false}
use Rattle.settings.specs.declared.Settings.{Settings}

-- a set by its values, in the table's order
unfoldable pub set_of : List ℕ → Settings
set_of l =
    record {
      algorithm = get_or l 0 0;
      capacity = get_or l 1 0;
      dose = get_or l 2 0;
      pc = get_or l 3 0;
      pf = get_or l 4 0;
      level = get_or l 5 0;
      p7 = get_or l 6 0;
      p8 = get_or l 7 0;
      p9 = get_or l 8 0;
      p11 = get_or l 9 0;
      o = get_or l 10 0;
      in1 = get_or l 11 0;
      in2 = get_or l 12 0;
      in3 = get_or l 13 0;
      address = get_or l 14 0;
      serial = get_or l 15 0;
      point = get_or l 16 0;
      product = get_or l 17 0;
    }

-- AL1 with C 1,000, D 500, Pc 100, Pf 20, M 50
abbrev al1 : List ℕ
al1 = 1 ∷ 1000 ∷ 500 ∷ 100 ∷ 20 ∷ 50 ∷ 4 ∷ 8 ∷ 1 ∷ 0 ∷ 0 ∷ 1 ∷ 1 ∷ 1 ∷ 1 ∷ 0 ∷ 0 ∷ 0 ∷ []

-- AL2 with C 1,000, D 500, Pc 100, Pf 20, M 800
abbrev al2 : List ℕ
al2 = 2 ∷ 1000 ∷ 500 ∷ 100 ∷ 20 ∷ 800 ∷ 128 ∷ 128 ∷ 63 ∷ 1 ∷ 1 ∷ 0 ∷ 0 ∷ 0 ∷ 127 ∷ 16777215 ∷ 3 ∷ 255 ∷ []

-- every setting out of its range
abbrev worst : List ℕ
worst = 4 ∷ 100000 ∷ 100001 ∷ 100002 ∷ 100003 ∷ 100004 ∷ 129 ∷ 130 ∷ 64 ∷ 2 ∷ 2 ∷ 2 ∷ 2 ∷ 2 ∷ 128 ∷ 16777216 ∷ 4 ∷ 256 ∷ []

abbrev good : Answer (Unit {0})
good = done tt

abbrev row_refused : ℕ → Answer (Unit {0})
row_refused n = refused R2 (n ∷ [])

-- a set with a value put into row n, and what the check answers
pub record Case : Type 0 where
  pub values : List ℕ
  pub answer : Answer (Unit {0})

abbrev case : List ℕ → ℕ → ℕ → Answer (Unit {0}) → Case
case l n v a = record { values = set l (n - 1) v; answer = a }

-- the ends of each range and the values past them
unfoldable pub cases : List Case
cases =
    case al2 1 3 good
    ∷ case al2 1 4 (row_refused 1)
    -- with everything bad, the algorithm is named
    ∷ case worst 1 4 (row_refused 1)
    -- with everything bad but the rows before, the first bad one is named
    ∷ case worst 1 3 (row_refused 2)
    ∷ case al1 2 0 (row_refused 2)
    ∷ case al1 2 99999 good
    ∷ case al1 2 100000 (row_refused 2)
    -- dose: 1..C
    ∷ case al1 3 0 (row_refused 3)
    ∷ case al1 3 1000 good
    ∷ case al1 3 1001 (row_refused 3)
    -- coarse lead: 0..D; fine lead: 0..Pc
    ∷ case al1 4 500 good
    ∷ case al1 4 501 (row_refused 4)
    ∷ case al1 5 100 good
    ∷ case al1 5 101 (row_refused 5)
    -- level in AL1: 1..C/4
    ∷ case al1 6 0 (row_refused 6)
    ∷ case al1 6 250 good
    ∷ case al1 6 251 (row_refused 6)
    -- level in AL2: D..C
    ∷ case al2 6 499 (row_refused 6)
    ∷ case al2 6 500 good
    ∷ case al2 6 1000 good
    ∷ case al2 6 1001 (row_refused 6)
    -- filters: 4..128 and p7..128
    ∷ case al1 7 3 (row_refused 7)
    ∷ case al1 7 8 good
    ∷ case al1 7 9 (row_refused 8)
    ∷ case al2 7 129 (row_refused 7)
    ∷ case al1 8 3 (row_refused 8)
    ∷ case al1 8 129 (row_refused 8)
    ∷ case al1 9 0 (row_refused 9)
    ∷ case al1 9 64 (row_refused 9)
    ∷ case al1 10 2 (row_refused 10)
    ∷ case al1 11 2 (row_refused 11)
    ∷ case al1 12 2 (row_refused 12)
    ∷ case al1 13 2 (row_refused 13)
    ∷ case al1 14 2 (row_refused 14)
    ∷ case al1 15 0 (row_refused 15)
    ∷ case al1 15 128 (row_refused 15)
    ∷ case al1 16 16777216 (row_refused 16)
    ∷ case al1 17 4 (row_refused 17)
    ∷ case al1 18 255 good
    ∷ case al1 18 256 (row_refused 18)
    -- row 17 is named before row 18
    ∷ case (set al2 17 256) 17 4 (row_refused 17)
    ∷ []

pub cases-hold : map (λ (k : Case). first_bad (set_of k.values)) cases ≡ map (λ (k : Case). k.answer) cases
unfolding cases set_of first_bad first_from table in_range least_level most_level pick
cases-hold = refl

-- a default set: AL0, C 10,000, D 100, Pc 0, Pf 0, M 100, p7 4, p8 4, p9 1, address 1, the rest 0
pub default-values : map value_of (table default_set) ≡ 0 ∷ 10000 ∷ 100 ∷ 0 ∷ 0 ∷ 100 ∷ 4 ∷ 4 ∷ 1 ∷ 0 ∷ 0 ∷ 0 ∷ 0 ∷ 0 ∷ 1 ∷ 0 ∷ 0 ∷ 0 ∷ []
unfolding table default_set
default-values = refl

-- 1..0 holds no number
none_in : (m : ℕ) → Out (row m 1 0)
none_in zero = inl (omega arith)
none_in (suc m) = inr (omega arith)

-- with C under 4 no M is good in AL0 and AL1, so M is named
pub no-level : (m : ℕ) → first_bad (set_of (1 ∷ 3 ∷ 1 ∷ 0 ∷ 0 ∷ m ∷ 4 ∷ 4 ∷ 1 ∷ 0 ∷ 0 ∷ 0 ∷ 0 ∷ 0 ∷ 1 ∷ 0 ∷ 0 ∷ 0 ∷ [])) ≡ refused R2 (6 ∷ [])
unfolding set_of first_bad first_from table in_range least_level most_level pick
no-level m = pick-f (in_range (row m 1 0)) (done tt) (refused R2 (6 ∷ [])) (out-false (row m 1 0) (none_in m))
