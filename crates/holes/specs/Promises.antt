-- What each call of this crate promises, and that two results which both keep the promise are equal. Assumes nothing.
use Rattle.std.specs.Prelude.{◌≡◌, refl, Bool, false, List, [], ◌∷◌, ℕ, suc, ◌<◌, length, get_or}
use Rattle.std.proofs.Common.{sym, ◌∙◌, arith}
use Rattle.paper.specs.Answer.{same}
use Rattle.journal.specs.declared.Line.{Line}
use Rattle.holes.specs.Holes.{Before, dose_before}
use Rattle.holes.specs.Marks.{AddsHole}

-- before_next: the D line before the line after this one
abbrev pub GoesOn : Before → Line → Before → Type 0
GoesOn before line r = r ≡ dose_before before line

pub before-next-determined : (before : Before) (line : Line) (a b : Before) → GoesOn before line a → GoesOn before line b → a ≡ b
before-next-determined before line a b p q = same p q

-- mark_hole: the hours of the hole that the line ends are marked, and the others are as they were
abbrev pub MarksHole : List Bool → ℕ → Before → Line → List Bool → Type 0
MarksHole old first before line new = AddsHole old first before line new

marks-one : (a b : List Bool) → length a ≡ length b → ((k : ℕ) → k < length a → get_or a k false ≡ get_or b k false) → a ≡ b
marks-one [] [] e f = refl
marks-one [] (y ∷ ys) e f = absurd (omega arith)
marks-one (x ∷ xs) [] e f = absurd (omega arith)
marks-one (x ∷ xs) (y ∷ ys) e f =
    let p : x ≡ y = f 0 (omega arith) in
    let q : xs ≡ ys = marks-one xs ys (omega arith) (λ k h. f (suc k) (omega arith)) in
    cc

pub mark-hole-determined : (old : List Bool) (first : ℕ) (before : Before) (line : Line) (a b : List Bool) → MarksHole old first before line a → MarksHole old first before line b → a ≡ b
mark-hole-determined old first before line a b p q = marks-one a b (p.size ∙ sym q.size) (λ k h. p.at k (omega (arith, p.size)) ∙ sym (q.at k (omega (arith, p.size))))
