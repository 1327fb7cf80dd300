-- What each call of this crate promises, and that two results which both keep the promise are equal. Assumes nothing.
use Rattle.std.specs.Prelude.{◌≡◌, Bool, ◌&&◌, List, ℕ}
use Rattle.paper.specs.Answer.{same}
use Rattle.journal.specs.Line.{one_line, line_at}
use Rattle.journal.specs.Fields.{fields_after, line_from}
use Rattle.journal.specs.Journal.{hour_in, no_past, past_after, out_of_order, too_far, form_of}
use Rattle.journal.specs.JournalLaws.{head_bytes, head_lines}
use Rattle.journal.specs.declared.Form.{Form}
use Rattle.journal.specs.declared.Head.{Head}
use Rattle.journal.specs.Says.{One, At, says_one, says_at, names_of, one-one, at_one}
use Rattle.journal.specs.declared.Line.{Line}
use Rattle.journal.specs.declared.Refusal.{Refusal}
use Rattle.journal.specs.declared.Named.{Named}
use Rattle.journal.specs.declared.Past.{Past}

-- head_of: the form, and the bytes and lines before the first line with an hour
abbrev pub Heads : List ℕ → Head → Type 0
Heads s r = r ≡ record { form = form_of s; bytes = head_bytes (form_of s); lines = head_lines (form_of s) }

pub head-of-determined : (s : List ℕ) (a b : Head) → Heads s a → Heads s b → a ≡ b
head-of-determined s a b p q = same p q

-- line_at: the line with an hour that stands at a place, and the place after it
abbrev pub StandsAt : Form → List ℕ → ℕ → At → Type 0
StandsAt f s at r = says_at r ≡ line_at f s at

pub line-at-determined : (f : Form) (s : List ℕ) (at : ℕ) (a b : At) → StandsAt f s at a → StandsAt f s at b → a ≡ b
line-at-determined f s at a b p q = at_one a b (same p q)

-- read_line: the line that the bytes are, or R10
abbrev pub ReadsLine : Form → List ℕ → One → Type 0
ReadsLine f s r = says_one r ≡ one_line f s

pub read-line-determined : (f : Form) (s : List ℕ) (a b : One) → ReadsLine f s a → ReadsLine f s b → a ≡ b
read-line-determined f s a b p q = one-one a b (same p q)

-- fields_after: how many fields follow a letter
abbrev pub CountsFields : Form → ℕ → ℕ → Type 0
CountsFields f letter r = r ≡ fields_after f letter

pub fields-after-determined : (f : Form) (letter a b : ℕ) → CountsFields f letter a → CountsFields f letter b → a ≡ b
fields-after-determined f letter a b p q = same p q

-- line_from: the line of n fields
abbrev pub MakesLine : ℕ → List ℕ → Line → Type 0
MakesLine n got r = r ≡ line_from n got

pub line-from-determined : (n : ℕ) (got : List ℕ) (a b : Line) → MakesLine n got a → MakesLine n got b → a ≡ b
line-from-determined n got a b p q = same p q

-- hour_in: the hour of a line
abbrev pub HoursLine : Line → ℕ → Type 0
HoursLine line r = r ≡ hour_in line

pub hour-in-determined : (line : Line) (a b : ℕ) → HoursLine line a → HoursLine line b → a ≡ b
hour-in-determined line a b p q = same p q

-- no_past: before the first line
abbrev pub Begins : Past → Type 0
Begins r = r ≡ no_past

pub no-past-determined : (a b : Past) → Begins a → Begins b → a ≡ b
no-past-determined a b p q = same p q

-- past_after: after one line more
abbrev pub TakesLine : Past → Line → Past → Type 0
TakesLine past line r = r ≡ past_after past line

pub past-after-determined : (past : Past) (line : Line) (a b : Past) → TakesLine past line a → TakesLine past line b → a ≡ b
past-after-determined past line a b p q = same p q

-- out_of_order: R11 for a line of this hour
abbrev pub BreaksOrder : Past → ℕ → Bool → Type 0
BreaksOrder past hour r = r ≡ (past.begun && out_of_order past.last past.closed hour)

pub out-of-order-determined : (past : Past) (hour : ℕ) (a b : Bool) → BreaksOrder past hour a → BreaksOrder past hour b → a ≡ b
out-of-order-determined past hour a b p q = same p q

-- too_far: R12 for a line of this hour
abbrev pub GoesFar : Past → ℕ → Bool → Type 0
GoesFar past hour r = r ≡ (past.begun && too_far past.first hour)

pub too-far-determined : (past : Past) (hour : ℕ) (a b : Bool) → GoesFar past hour a → GoesFar past hour b → a ≡ b
too-far-determined past hour a b p q = same p q

-- number_and_line: a refusal's number and its line
abbrev pub Names : Refusal → Named → Type 0
Names refusal r = r ≡ names_of refusal

pub number-and-line-determined : (refusal : Refusal) (a b : Named) → Names refusal a → Names refusal b → a ≡ b
number-and-line-determined refusal a b p q = same p q
