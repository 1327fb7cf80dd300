-- What each call of this crate promises, and that two results which both keep the promise are equal. Assumes nothing.
use Rattle.std.specs.Prelude.{◌≡◌, List, ℕ, length, take, Option}
use Rattle.paper.specs.Answer.{same}
use Rattle.report.specs.Promises.{Holds, holds-one}
use Rattle.report.specs.declared.Printout.{Printout}
use Rattle.chosen.specs.Choice.{product_line, chosen_report}
use Rattle.chosen.specs.Says.{says_choice, choice-one}

-- product_line: the product alone on a line, or R2
abbrev pub ReadsProduct : List ℕ → Option ℕ → Type 0
ReadsProduct line r = says_choice r ≡ product_line line

pub product-line-determined : (line : List ℕ) (a b : Option ℕ) → ReadsProduct line a → ReadsProduct line b → a ≡ b
product-line-determined line a b p q = choice-one a b (same p q)

-- report: what the product program prints for the first n bytes, and so for any journal of which they are all, or as many as were asked for
pub record ReportsChosen (choice : Option ℕ) (bytes : List ℕ) (n : ℕ) (r : Printout 33480) : Type 0 where
  pub holds : Holds (chosen_report (says_choice choice) (take n bytes)) r
  pub whole : (s : List ℕ) → take n bytes ≡ take (length bytes) s → Holds (chosen_report (says_choice choice) s) r

pub report-determined : (choice : Option ℕ) (bytes : List ℕ) (n : ℕ) (a b : Printout 33480) → ReportsChosen choice bytes n a → ReportsChosen choice bytes n b → a ≡ b
report-determined choice bytes n a b p q = holds-one (chosen_report (says_choice choice) (take n bytes)) a b p.holds q.holds
