-- What each call of this crate promises, and that two results which both keep the promise are equal. Assumes nothing.
use Rattle.std.specs.Prelude.{◌≡◌, List, ℕ, length, take, Option, Result}
use Rattle.paper.specs.Answer.{same, Fills, fills_one}
use Rattle.sheet.specs.Lines.{print_of, first_line, report_of}
use Rattle.sheet.specs.Says.{says_printed, printed-one, says_first, first_one, given_first}
use Rattle.sheet.specs.declared.PrintError.{PrintError}
use Rattle.report.specs.Promises.{Holds, holds-one}
use Rattle.report.specs.declared.Printout.{Printout}

-- print: the sheet from the buffer's start, or the journal's refusal, or R21, or R8
abbrev pub PrintsSheet : List ℕ → ℕ → Result ℕ PrintError → List ℕ → List ℕ → Type 0
PrintsSheet s first r old new = Fills (says_printed r) (print_of s first (length old)) old new

pub print-determined : (s : List ℕ) (first : ℕ) (old : List ℕ) (a b : Result ℕ PrintError) {new new' : List ℕ} → PrintsSheet s first a old new → PrintsSheet s first b old new' → (a ≡ b) × (new ≡ new')
print-determined s first old a b p q = let e = fills_one p q in (printed-one a b e.0, e.1)

-- first_line: the first hour of a line without its LF
abbrev pub ReadsFirst : List ℕ → Option ℕ → Type 0
ReadsFirst line r = says_first r ≡ first_line line

pub first-line-determined : (line : List ℕ) (a b : Option ℕ) → ReadsFirst line a → ReadsFirst line b → a ≡ b
first-line-determined line a b p q = first_one a b (same p q)

-- report: what the program prints for a first hour and the first n bytes, and so for any journal of which they are all, or as many as were asked for
pub record Reports (first : Option ℕ) (bytes : List ℕ) (n : ℕ) (r : Printout 140) : Type 0 where
  pub holds : Holds (report_of (given_first first) (take n bytes)) r
  pub whole : (s : List ℕ) → take n bytes ≡ take (length bytes) s → Holds (report_of (given_first first) s) r

pub report-determined : (first : Option ℕ) (bytes : List ℕ) (n : ℕ) (a b : Printout 140) → Reports first bytes n a → Reports first bytes n b → a ≡ b
report-determined first bytes n a b p q = holds-one (report_of (given_first first) (take n bytes)) a b p.holds q.holds
