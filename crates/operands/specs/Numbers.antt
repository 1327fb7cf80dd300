-- A number that may be below 0, read at a place of a line, and a row of numbers as settings. Assumes nothing.
use Rattle.std.specs.Prelude.{◌≡◌, refl, Option, Some, None, List, [], ◌∷◌, ℕ, zero, suc, ◌≤◌, eqb, ℤ, pos, neg_ℤ, length, get_or, drop}
use Rattle.std.proofs.Common.{sym, ◌∙◌}
use Rattle.laws.specs.Pick.{pick}
use Rattle.laws.specs.Decimal.{Parsed, good, bad, number_at}
use Rattle.paper.specs.Answer.{same}
use Rattle.settings.specs.declared.Settings.{Settings}
use Rattle.text.specs.Scan.{TAB, expect}
use Rattle.text.specs.ScanLaws.{bad-good, good-one}

-- a number below 0: a minus, and a number that is not 0
unfoldable pub minus : Parsed ℕ → Parsed ℤ
minus (good zero rest) = bad
minus (good (suc n) rest) = good (neg_ℤ (pos (suc n))) rest
minus bad = bad

unfoldable pub plus : Parsed ℕ → Parsed ℤ
plus (good n rest) = good (pos n) rest
plus bad = bad

-- -2,147,483,648..2,147,483,647
unfoldable pub signed_at : List ℕ → Parsed ℤ
signed_at [] = bad
signed_at (b ∷ bs) = pick (eqb b 45) (minus (number_at 2147483648 bs)) (plus (number_at 2147483647 (b ∷ bs)))

unfoldable pub signed_field : List ℕ → Parsed ℤ
signed_field l = expect TAB l signed_at

-- the first 17 of a row as settings, in the order of document 01's table, and the product code
unfoldable pub set_with : List ℕ → ℕ → Settings
set_with row product =
    record {
      algorithm = get_or row 0 0;
      capacity = get_or row 1 0;
      dose = get_or row 2 0;
      pc = get_or row 3 0;
      pf = get_or row 4 0;
      level = get_or row 5 0;
      p7 = get_or row 6 0;
      p8 = get_or row 7 0;
      p9 = get_or row 8 0;
      p11 = get_or row 9 0;
      o = get_or row 10 0;
      in1 = get_or row 11 0;
      in2 = get_or row 12 0;
      in3 = get_or row 13 0;
      address = get_or row 14 0;
      serial = get_or row 15 0;
      point = get_or row 16 0;
      product = product;
    }

-- a value and the place after it, or none
abbrev pub Signed : Type 0
Signed = Option (ℤ × ℕ)

-- what the reader answers: the value, and the bytes of s that follow it
abbrev pub leads_signed : List ℕ → Signed → Parsed ℤ
leads_signed s (Some (v, next)) = good v (drop next s)
leads_signed s None = bad

abbrev pub signed_end : Signed → ℕ
signed_end (Some (v, next)) = next
signed_end None = 0

-- what each call's result has to meet
pub record ReadsSigned (s : List ℕ) (at : ℕ) (r : Signed) : Type 0 where
  pub reads : signed_field (drop at s) ≡ leads_signed s r
  pub inside : signed_end r ≤ length s

abbrev pub MakesSet : List ℕ → ℕ → Settings → Type 0
MakesSet row product r = r ≡ set_with row product

-- two results that both meet a call's contract are equal
pub signed-determined : (s : List ℕ) (at : ℕ) {a b : Signed} → ReadsSigned s at a → ReadsSigned s at b → a ≡ b
signed-determined s at {a} {b} p q = go a b (sym p.reads ∙ q.reads) p.inside q.inside
  where
    go : (a b : Signed) → leads_signed s a ≡ leads_signed s b → signed_end a ≤ length s → signed_end b ≤ length s → a ≡ b
    go (Some (v, m)) (Some (w, n)) e h k = let o = good-one s m n e h k in rw (o.0, o.1)
    go (Some (v, m)) None e h k = bad-good (sym e)
    go None (Some (w, n)) e h k = bad-good e
    go None None e h k = refl

pub set-determined : (row : List ℕ) (product : ℕ) {a b : Settings} → MakesSet row product a → MakesSet row product b → a ≡ b
set-determined row product p q = same p q
