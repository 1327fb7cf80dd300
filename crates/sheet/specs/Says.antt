-- What the answers of the sheet's calls say, in the paper's words, and that two which say the same are equal. Assumes nothing.
use Rattle.std.specs.Prelude.{◌≡◌, refl, List, [], ℕ, Option, Some, None, Result, Ok, Err}
use Rattle.std.proofs.Common.{sym, ap, arith}
use Rattle.paper.specs.Answer.{Answer, done, refused, on_done}
use Rattle.paper.specs.AnswerLaws.{refused-done}
use Rattle.paper.specs.Numbers.{R8, R21}
use Rattle.report.specs.Report.{refusal_text, refusal_of}
use Rattle.report.specs.Says.{refusal-r8}
use Rattle.weekly.specs.Week.{first_of}
use Rattle.weekly.specs.Says.{says_error, error-done, error-one}
use Rattle.weekly.specs.declared.WeekError.{WeekError}
use Rattle.weekly.specs.declared.WeekError.TheVariants as E
use Rattle.sheet.specs.declared.PrintError.{PrintError}
use Rattle.sheet.specs.declared.PrintError.TheVariants as P

-- its length; why there is no week; or R8
abbrev pub says_printed : Result ℕ PrintError → Answer ℕ
says_printed (Ok n) = done n
says_printed (Err (P.Week e)) = says_error e
says_printed (Err P.R8) = refused R8 []

-- the first hour of a line, or R21
abbrev pub says_first : Option ℕ → Answer ℕ
says_first (Some h) = done h
says_first None = refused R21 []

-- the first hour that is handed over, held against the greatest again
unfoldable pub given_first : Option ℕ → Answer ℕ
given_first first = on_done (says_first first) first_of

-- the one line of why there is no week
unfoldable pub error_text : WeekError → List ℕ
error_text (E.Refused r) = refusal_of r
error_text E.R21 = refusal_text 21 0

pub first_one : (a b : Option ℕ) → says_first a ≡ says_first b → a ≡ b
first_one (Some g) (Some h) e = cc
first_one (Some g) None e = refused-done (sym e)
first_one None (Some h) e = refused-done e
first_one None None e = refl

error-r8 : {X Q : Type 0} (e : WeekError) → says_error {X = X} e ≡ refused R8 [] → Q
error-r8 (E.Refused r) e = refusal-r8 r e
error-r8 E.R21 e = let z : R21 ≡ R8 = cc in let f : ⊥ = omega arith in absurd f

pub printed-one : (a b : Result ℕ PrintError) → says_printed a ≡ says_printed b → a ≡ b
printed-one (Ok n) (Ok m) e = cc
printed-one (Ok n) (Err (P.Week b)) e = error-done b (sym e)
printed-one (Ok n) (Err P.R8) e = refused-done (sym e)
printed-one (Err (P.Week a)) (Ok m) e = error-done a e
printed-one (Err (P.Week a)) (Err (P.Week b)) e = ap (λ (z : WeekError). Err (P.Week z)) (error-one {X = ℕ} a b e)
printed-one (Err (P.Week a)) (Err P.R8) e = error-r8 a e
printed-one (Err P.R8) (Ok m) e = refused-done e
printed-one (Err P.R8) (Err (P.Week b)) e = error-r8 b (sym e)
printed-one (Err P.R8) (Err P.R8) e = refl
