-- What the answer of the text's call says, in the paper's words, and that two which say the same are equal. Assumes nothing.
use Rattle.std.specs.Prelude.{◌≡◌, refl, List, [], ℕ, Result, Ok, Err}
use Rattle.std.proofs.Common.{sym, ap, arith}
use Rattle.paper.specs.Answer.{Answer, done, refused, fault}
use Rattle.paper.specs.AnswerLaws.{refused-done, fault-refused}
use Rattle.paper.specs.Numbers.{R8, R10, R11, R12, R13}
use Rattle.journal.specs.Says.{says_refusal, refusal-one, refusal-done}
use Rattle.journal.specs.declared.Refusal.{Refusal}
use Rattle.journal.specs.declared.Refusal.TheVariants as R
use Rattle.report.specs.declared.PrintError.{PrintError}
use Rattle.report.specs.declared.PrintError.TheVariants as P

-- its length, or the journal's refusal, or R8
abbrev pub says_printed : Result ℕ PrintError → Answer ℕ
says_printed (Ok n) = done n
says_printed (Err (P.Refused r)) = says_refusal r
says_printed (Err P.R8) = refused R8 []

-- no refusal of a journal is R8
pub refusal-r8 : {X Q : Type 0} (r : Refusal) → says_refusal {X = X} r ≡ refused R8 [] → Q
refusal-r8 (R.R10 n) e = let z : R10 ≡ R8 = cc in absurd (omega arith)
refusal-r8 (R.R11 n) e = let z : R11 ≡ R8 = cc in absurd (omega arith)
refusal-r8 (R.R12 n) e = let z : R12 ≡ R8 = cc in absurd (omega arith)
refusal-r8 R.R13 e = let z : R13 ≡ R8 = cc in absurd (omega arith)

-- no refusal of a journal is a fault
pub refusal-fault : {X Q : Type 0} {n : ℕ} {vs : List ℕ} (r : Refusal) → says_refusal {X = X} r ≡ fault n vs → Q
refusal-fault (R.R10 n) e = fault-refused (sym e)
refusal-fault (R.R11 n) e = fault-refused (sym e)
refusal-fault (R.R12 n) e = fault-refused (sym e)
refusal-fault R.R13 e = fault-refused (sym e)

pub printed-one : (a b : Result ℕ PrintError) → says_printed a ≡ says_printed b → a ≡ b
printed-one (Ok n) (Ok m) e = cc
printed-one (Ok n) (Err (P.Refused r)) e = refusal-done r (sym e)
printed-one (Ok n) (Err P.R8) e = refused-done (sym e)
printed-one (Err (P.Refused q)) (Ok m) e = refusal-done q e
printed-one (Err (P.Refused q)) (Err (P.Refused r)) e = ap (λ (z : Refusal). Err (P.Refused z)) (refusal-one q r e)
printed-one (Err (P.Refused q)) (Err P.R8) e = refusal-r8 q e
printed-one (Err P.R8) (Ok m) e = refused-done e
printed-one (Err P.R8) (Err (P.Refused r)) e = refusal-r8 r (sym e)
printed-one (Err P.R8) (Err P.R8) e = refl
