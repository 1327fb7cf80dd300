-- What the program prints for an input, by its first line and what follows it; that a long first line is R21, and which lines are first hours. Assumes nothing.
use Rattle.std.specs.Prelude.{◌≡◌, refl, List, [], ◌∷◌, ◌++◌, ℕ, ◌≤◌, ◌<◌, length}
use Rattle.std.proofs.Common.{sym, ap, ◌∙◌, append_assoc, append-nil, arith, length-append, ne_eqb}
use Rattle.laws.specs.Pick.{pick, pick-f}
use Rattle.laws.specs.Decimal.{decimal, Parsed, good, bad, number_at}
use Rattle.laws.specs.DecimalLaws.{number-only, number-decimal, decimal-length}
use Rattle.paper.specs.Answer.{done, refused}
use Rattle.paper.specs.AnswerLaws.{refused-done}
use Rattle.paper.specs.Numbers.{R21}
use Rattle.text.specs.Scan.{LF}
use Rattle.holes.specs.HoleLaws.{Exactly}
use Rattle.weekly.specs.Week.{latest}
use Rattle.sheet.specs.Lines.{first_from, first_line, report_of, no_line, cut, cut_from, program_by, program_of}

-- no LF among them
abbrev pub Plain : List ℕ → Type 0
Plain [] = Unit {0}
Plain (b ∷ bs) = (b ≡ LF → ⊥) × Plain bs

cut_line : (l begun rest : List ℕ) → Plain l → cut_from begun (l ++ LF ∷ rest) ≡ cut (begun ++ l) rest
unfolding cut_from pick
cut_line [] begun rest p = ap (λ (b : List ℕ). cut b rest) (sym (append-nil begun))
cut_line (x ∷ xs) begun rest p =
    pick-f _ _ _ (ne_eqb x LF p.0) ∙ cut_line xs (begun ++ x ∷ []) rest p.1 ∙ ap (λ (b : List ℕ). cut b rest) (append_assoc begun (x ∷ []) xs)

cut-none : (l begun : List ℕ) → Plain l → cut_from begun l ≡ no_line
unfolding cut_from
cut-none [] begun p = refl
cut-none (x ∷ xs) begun p = pick-f _ _ _ (ne_eqb x LF p.0) ∙ cut-none xs (begun ++ x ∷ []) p.1

-- a first line, its LF and the journal
pub program-line : (line journal : List ℕ) → Plain line → program_of (line ++ LF ∷ journal) ≡ report_of (first_line line) journal
unfolding program_of program_by
program-line line journal p = ap program_by (cut_line line [] journal p)

-- no LF: no first line and no journal
pub program-none : (input : List ℕ) → Plain input → program_of input ≡ report_of (refused R21 []) []
unfolding program_of program_by
program-none input p = ap program_by (cut-none input [] p)

-- a first line of more than 7 bytes is none, so no more of it has to be kept; an empty one is none either
pub long-first : (line : List ℕ) → 7 < length line → first_line line ≡ refused R21 []
unfolding first_line first_from
long-first line h = go (number_at latest line) refl
  where
    go : (p : Parsed ℕ) → number_at latest line ≡ p → first_from p ≡ refused R21 []
    go (good n []) e =
        let o = number-only latest line n [] e in
        let most = o.1 in
        absurd (omega (arith, ap length o.0, length-append (decimal n) [], decimal-length 7 n (omega arith) (omega arith)))
    go (good n (b ∷ bs)) e = refl
    go bad e = refl

pub empty-first : first_line [] ≡ refused R21 []
unfolding first_line first_from number_at
empty-first = refl

-- a line is a first hour exactly if it is its decimal, and at most 9,999,832
pub first-exactly : (line : List ℕ) (n : ℕ) → Exactly (first_line line ≡ done n) ((line ≡ decimal n) × (n ≤ 9999832))
unfolding first_line first_from
first-exactly line n = (only (number_at latest line) refl, made)
  where
    only : (p : Parsed ℕ) → number_at latest line ≡ p → first_from p ≡ done n → (line ≡ decimal n) × (n ≤ 9999832)
    only (good v []) p e =
        let is : v ≡ n = cc in
        let o = number-only latest line v [] p in
        (o.0 ∙ append-nil (decimal v) ∙ ap decimal is, omega (arith, o.1))
    only (good v (b ∷ bs)) p e = refused-done e
    only bad p e = refused-done e

    made : (line ≡ decimal n) × (n ≤ 9999832) → first_from (number_at latest line) ≡ done n
    made b = ap (λ (l : List ℕ). first_from (number_at latest l)) (b.0 ∙ sym (append-nil (decimal n))) ∙ ap first_from (number-decimal latest n [] b.1 tt)

-- every other line is R21
pub first-none : (line : List ℕ) → ((n : ℕ) → line ≡ decimal n → n ≤ 9999832 → ⊥) → first_line line ≡ refused R21 []
unfolding first_line first_from
first-none line f = go (number_at latest line) refl
  where
    go : (p : Parsed ℕ) → number_at latest line ≡ p → first_from p ≡ refused R21 []
    go (good v []) p = let o = number-only latest line v [] p in absurd (f v (o.0 ∙ append-nil (decimal v)) o.1)
    go (good v (b ∷ bs)) p = refl
    go bad p = refl
