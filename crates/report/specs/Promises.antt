-- What each call of this crate promises, and that two results which both keep the promise are equal. Assumes nothing.
use Rattle.std.specs.Prelude.{◌≡◌, List, ℕ, ◌≤◌, length, take, replicate, Result}
use Rattle.std.proofs.Common.{ap, ◌∙◌, arith, length-append}
use Rattle.paper.specs.Answer.{done, told, bytes_in, Fills, fills_one, Hands, hands-one}
use Rattle.text.specs.Put.{Puts, puts-determined}
use Rattle.hourly.specs.Text.{print_of}
use Rattle.hourly.specs.declared.Products.{Products}
use Rattle.journal.specs.Says.{names_of}
use Rattle.journal.specs.declared.Refusal.{Refusal}
use Rattle.report.specs.Report.{refusal_text, report_of}
use Rattle.report.specs.Says.{says_printed, printed-one}
use Rattle.report.specs.declared.PrintError.{PrintError}
use Rattle.report.specs.declared.Printout.{Printout}

-- print: the hour program's text for some products from the buffer's start, or the journal's refusal, or R8
abbrev pub PrintsHours : Products → List ℕ → Result ℕ PrintError → List ℕ → List ℕ → Type 0
PrintsHours w s r old new = Fills (says_printed r) (print_of w s (length old)) old new

pub print-determined : (w : Products) (s old : List ℕ) (a b : Result ℕ PrintError) {new new' : List ℕ} → PrintsHours w s a old new → PrintsHours w s b old new' → (a ≡ b) × (new ≡ new')
print-determined w s old a b p q = let e = fills_one p q in (printed-one a b e.0, e.1)

-- put_refused: the line of a refusal at the buffer's start, if it has room
abbrev pub PutsRefusal : List ℕ → ℕ → ℕ → List ℕ → ℕ → Type 0
PutsRefusal old number line new r = Puts old 0 (refusal_text number line) new r

pub put-refused-determined : (old : List ℕ) (number line : ℕ) {new new' : List ℕ} {r r' : ℕ} → PutsRefusal old number line new r → PutsRefusal old number line new' r' → (new ≡ new') × (r ≡ r')
put-refused-determined old number line p q = puts-determined p q

-- a text by value: its bytes, how many they are, and 0 behind them
abbrev pub Holds : {n : ℕ} → List ℕ → Printout n → Type 0
Holds {n} text r = Hands n (done r.len) (done text) r.bytes

printout-one : {n : ℕ} (a b : Printout n) → a.bytes ≡ b.bytes → a.len ≡ b.len → a ≡ b
printout-one a b e k = ap (λ (i : ℕ). record { bytes = a.bytes; len = i }) k ∙ ap (λ (l : List ℕ). record { bytes = l; len = b.len }) e

pub holds-one : {n : ℕ} (text : List ℕ) (a b : Printout n) → Holds text a → Holds text b → a ≡ b
holds-one text a b p q =
    let e = hands-one p q in
    let k : a.len ≡ b.len = cc in
    printout-one a b e.1 k

-- the text stands inside its array
pub holds-inside : {n : ℕ} (text : List ℕ) (r : Printout n) → Holds text r → r.len ≤ length r.bytes
unfolding told bytes_in
holds-inside text r h =
    let says : done r.len ≡ done (length text) = h.says in
    let k : r.len ≡ length text = cc in
    omega (arith, ap length h.holds ∙ length-append text _)

-- refusal_line: the line of a refusal put over n bytes of 0, which have room for any if they are 44
pub record HoldsRefusal {n : ℕ} (number line : ℕ) (r : Printout n) : Type 0 where
  pub puts : Puts (replicate n 0) 0 (refusal_text number line) r.bytes r.len
  pub holds : 44 ≤ n → Holds (refusal_text number line) r

pub refusal-line-determined : {n : ℕ} (number line : ℕ) (a b : Printout n) → HoldsRefusal number line a → HoldsRefusal number line b → a ≡ b
refusal-line-determined number line a b p q = let e = puts-determined p.puts q.puts in printout-one a b e.0 e.1

-- refusal_report: the line of a journal's refusal
abbrev pub ReportsRefusal : {n : ℕ} → Refusal → Printout n → Type 0
ReportsRefusal refusal r = HoldsRefusal (names_of refusal).number (names_of refusal).line r

pub refusal-report-determined : {n : ℕ} (refusal : Refusal) (a b : Printout n) → ReportsRefusal refusal a → ReportsRefusal refusal b → a ≡ b
refusal-report-determined refusal a b p q = refusal-line-determined (names_of refusal).number (names_of refusal).line a b p q

-- report: what the hour program prints for some products and the first n bytes, and so for any journal of which they are all, or as many as were asked for
pub record Reports (w : Products) (bytes : List ℕ) (n : ℕ) (r : Printout 33480) : Type 0 where
  pub holds : Holds (report_of w (take n bytes)) r
  pub whole : (s : List ℕ) → take n bytes ≡ take (length bytes) s → Holds (report_of w s) r

pub report-determined : (w : Products) (bytes : List ℕ) (n : ℕ) (a b : Printout 33480) → Reports w bytes n a → Reports w bytes n b → a ≡ b
report-determined w bytes n a b p q = holds-one (report_of w (take n bytes)) a b p.holds q.holds
