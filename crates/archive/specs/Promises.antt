-- What each call of this crate promises, and that two results which both keep the promise are equal. Assumes nothing.
use Rattle.std.specs.Prelude.{◌≡◌, List, ℕ, length, take, Result, Ok, Err}
use Rattle.paper.specs.Numbers.{R8, R18}
use Rattle.report.specs.Report.{refusal_text, refusal_of}
use Rattle.conversion.specs.declared.ConvertError.{ConvertError}
use Rattle.conversion.specs.declared.ConvertError.TheVariants as C
use Rattle.archive.specs.Archive.{renew_print, restore_print}
use Rattle.report.specs.Promises.{Holds, holds-one}
use Rattle.report.specs.declared.Printout.{Printout}

-- what is printed for an answer: the journal that stands in the buffer, or the line of the refusal
abbrev pub Shows : Result ℕ ConvertError → List ℕ → Printout 65536 → Type 0
Shows (Ok n) out r = r ≡ record { bytes = out; len = n }
Shows (Err (C.Refused q)) out r = Holds (refusal_of q) r
Shows (Err (C.R18 n)) out r = Holds (refusal_text R18 n) r
Shows (Err C.R8) out r = Holds (refusal_text R8 0) r

-- what a program prints for the first n bytes, and so for any journal of which they are all, or as many as were asked for
pub record Prints (rule : List ℕ → List ℕ) (bytes : List ℕ) (n : ℕ) (r : Printout 65536) : Type 0 where
  pub holds : Holds (rule (take n bytes)) r
  pub whole : (s : List ℕ) → take n bytes ≡ take (length bytes) s → Holds (rule s) r

-- renewed: what the program renew prints
abbrev pub PrintsRenewed : List ℕ → ℕ → Printout 65536 → Type 0
PrintsRenewed bytes n r = Prints renew_print bytes n r

pub renewed-determined : (bytes : List ℕ) (n : ℕ) (a b : Printout 65536) → PrintsRenewed bytes n a → PrintsRenewed bytes n b → a ≡ b
renewed-determined bytes n a b p q = holds-one (renew_print (take n bytes)) a b p.holds q.holds

-- restored: what the program restore prints
abbrev pub PrintsRestored : List ℕ → ℕ → Printout 65536 → Type 0
PrintsRestored bytes n r = Prints restore_print bytes n r

pub restored-determined : (bytes : List ℕ) (n : ℕ) (a b : Printout 65536) → PrintsRestored bytes n a → PrintsRestored bytes n b → a ≡ b
restored-determined bytes n a b p q = holds-one (restore_print (take n bytes)) a b p.holds q.holds
