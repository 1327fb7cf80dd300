use mathlib.Core.Path.{◌≡◌, refl, sym, ap, ◌∙◌}
use mathlib.Core.List.{List, [], ◌∷◌}
use Prim.Native.Nat.{ℕ, ◌≤◌, ◌<◌}
use Rattle.laws.specs.Decimal.{good}
use Rattle.paper.specs.Answer.{done, refused}
use Rattle.paper.specs.Numbers.{R10}
use native.Mathlib.Omega.{arith}
use lib.ListN.{length}
use Rattle.journal.specs.declared.Form.{Form}
use Rattle.journal.specs.declared.Line.{Line}
use Rattle.journal.specs.Line.{holds, line_at, line_of, dated, whole, placed}
use Rattle.journal.specs.Says.{says_at}
use Rattle.journal.specs.LineLaws.{line-shorter, placed-none, placed-good}
use Rattle.journal.proofs.read_dated.Goals as goal
use Rattle.journal.proofs.read_dated.Goals.{In-Some}

-- a line by itself has nothing behind it
read_more : (f : Form) (s : List ℕ) (k : ℕ) (l : Line) → holds l k ≡ placed (length s) (line_of f s) → k < length s → whole (line_of f s) ≡ refused R10 (1 ∷ [])
unfolding whole
read_more f s k l e h = let x = placed-good (length s) k l (line_of f s) e in ap whole x.1 ∙ go x.0 (omega (arith, x.2))
  where
    go : (rest : List ℕ) → 0 < length rest → whole (good l rest) ≡ refused R10 (1 ∷ [])
    go [] h = absurd (omega arith)
    go (b ∷ bs) h = refl

read_all : (f : Form) (s : List ℕ) (k : ℕ) (l : Line) → holds l k ≡ placed (length s) (line_of f s) → length s ≤ k → whole (line_of f s) ≡ done (dated l)
unfolding whole
read_all f s k l e h =
    let x = placed-good (length s) k l (line_of f s) e in
    ap whole x.1 ∙ go x.0 (omega (arith, x.2, line-shorter f s l x.0 x.1))
  where
    go : (rest : List ℕ) → length rest ≡ 0 → whole (good l rest) ≡ done (dated l)
    go [] h = refl
    go (b ∷ bs) h = absurd (omega arith)

abbrev S : In-Some → List ℕ
S c = c.args.bytes.now

abbrev F : In-Some → Form
F c = c.args.form

abbrev line : In-Some → Line
line c = c.in-Some.line

abbrev next : In-Some → ℕ
next c = c.in-Some.next

-- what the reader at a place answered
at-line : (c : In-Some) → holds (line c) (next c) ≡ placed (length (S c)) (line_of (F c) (S c))
unfolding line_at
at-line c = ap says_at (sym c.in-Some.is) ∙ c.line_at.ensures

pub returns-in_default : goal.returns-in_default
unfolding whole line_at
returns-in_default c =
    let s = c.args.bytes.now in
    let f = c.args.form in
    sym (ap whole (placed-none (length s) (line_of f s) (sym c.line_at.ensures ∙ ap says_at c.in_default.is)))

pub returns-then-next-bytes : goal.returns-then-next-bytes
returns-then-next-bytes c = sym (read_more (F (goal.at.returns-then-next-bytes c).In-Some) (S (goal.at.returns-then-next-bytes c).In-Some) (next (goal.at.returns-then-next-bytes c).In-Some) (line (goal.at.returns-then-next-bytes c).In-Some) (at-line (goal.at.returns-then-next-bytes c).In-Some) (omega (arith, c.if-next-bytes.true)))

pub returns : goal.returns
returns c = sym (read_all (F (goal.at.returns c).In-Some) (S (goal.at.returns c).In-Some) (next (goal.at.returns c).In-Some) (line (goal.at.returns c).In-Some) (at-line (goal.at.returns c).In-Some) (omega (arith, c.if-next-bytes.false)))
