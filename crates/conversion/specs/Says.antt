-- What the answer of a conversion says, in the paper's words, and that two which say the same are equal. Assumes nothing.
use Rattle.std.specs.Prelude.{◌≡◌, refl, List, [], ◌∷◌, ℕ, ◌≤◌, Option, Some, None, Result, Ok, Err}
use Rattle.std.proofs.Common.{sym, ap, arith}
use Rattle.paper.specs.Answer.{Answer, done, refused}
use Rattle.paper.specs.AnswerLaws.{refused-done}
use Rattle.paper.specs.Numbers.{R8, R10, R11, R12, R13, R18}
use Rattle.journal.specs.Says.{says_refusal, refusal-one, refusal-done}
use Rattle.journal.specs.declared.Refusal.{Refusal}
use Rattle.journal.specs.declared.Refusal.TheVariants as R
use Rattle.text.specs.Scan.{LF, TAB}
use Rattle.conversion.specs.declared.ConvertError.{ConvertError}
use Rattle.conversion.specs.declared.ConvertError.TheVariants as C
use Rattle.conversion.specs.declared.Piece.{Piece}
use Rattle.conversion.specs.declared.Piece.TheVariants as P

-- the length of the converted journal; R10 to R12 with the line, R13; R18 with its line; R8
abbrev pub says_converted : Result ℕ ConvertError → Answer ℕ
says_converted (Ok n) = done n
says_converted (Err (C.Refused r)) = says_refusal r
says_converted (Err (C.R18 n)) = refused R18 (n ∷ [])
says_converted (Err C.R8) = refused R8 []

-- what a byte becomes
abbrev pub says_piece : Piece → ℕ → List ℕ
says_piece P.Gone b = []
says_piece P.Kept b = b ∷ []
says_piece P.Ended b = TAB ∷ 48 ∷ LF ∷ []

-- the number of the line that was found, or 0
abbrev pub says_other : Option ℕ → ℕ
says_other (Some n) = n
says_other None = 0

-- a journal's refusal is one of R10 to R13
pub refusal-number : {X : Type 0} {k : ℕ} {vs : List ℕ} (r : Refusal) → says_refusal {X = X} r ≡ refused k vs → (R10 ≤ k) × (k ≤ R13)
refusal-number {k = k} (R.R10 n) e = let z : R10 ≡ k = cc in (omega arith, omega arith)
refusal-number {k = k} (R.R11 n) e = let z : R11 ≡ k = cc in (omega arith, omega arith)
refusal-number {k = k} (R.R12 n) e = let z : R12 ≡ k = cc in (omega arith, omega arith)
refusal-number {k = k} R.R13 e = let z : R13 ≡ k = cc in (omega arith, omega arith)

refusal-18 : {X Q : Type 0} {vs : List ℕ} (r : Refusal) → says_refusal {X = X} r ≡ refused R18 vs → Q
refusal-18 r e = absurd (omega (arith, (refusal-number r e).1))

refusal-8 : {X Q : Type 0} {vs : List ℕ} (r : Refusal) → says_refusal {X = X} r ≡ refused R8 vs → Q
refusal-8 r e = absurd (omega (arith, (refusal-number r e).0))

pub converted-one : (a b : Result ℕ ConvertError) → says_converted a ≡ says_converted b → a ≡ b
converted-one (Ok n) (Ok m) e = cc
converted-one (Ok n) (Err (C.Refused r)) e = refusal-done r (sym e)
converted-one (Ok n) (Err (C.R18 m)) e = refused-done (sym e)
converted-one (Ok n) (Err C.R8) e = refused-done (sym e)
converted-one (Err (C.Refused q)) (Ok m) e = refusal-done q e
converted-one (Err (C.Refused q)) (Err (C.Refused r)) e = ap (λ (z : Refusal). Err (C.Refused z)) (refusal-one q r e)
converted-one (Err (C.Refused q)) (Err (C.R18 m)) e = refusal-18 q e
converted-one (Err (C.Refused q)) (Err C.R8) e = refusal-8 q e
converted-one (Err (C.R18 n)) (Ok m) e = refused-done e
converted-one (Err (C.R18 n)) (Err (C.Refused r)) e = refusal-18 r (sym e)
converted-one (Err (C.R18 n)) (Err (C.R18 m)) e = cc
converted-one (Err (C.R18 n)) (Err C.R8) e = let z : R18 ≡ R8 = cc in absurd (omega arith)
converted-one (Err C.R8) (Ok m) e = refused-done e
converted-one (Err C.R8) (Err (C.Refused r)) e = refusal-8 r (sym e)
converted-one (Err C.R8) (Err (C.R18 m)) e = let z : R8 ≡ R18 = cc in absurd (omega arith)
converted-one (Err C.R8) (Err C.R8) e = refl
