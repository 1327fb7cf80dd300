-- What the calls of a clock and their parts promise. Assumes nothing.
use Rattle.std.specs.Prelude.{Ok, Err, ◌≡◌, refl, Bool, true, List, [], ℕ, ◌+◌, ◌≤◌, leb, length}
use Rattle.std.proofs.Common.{sym, ap₂, ◌∙◌, subst, zero-add, arith}
use Rattle.std.proofs.lemmas.List.Edits.{sets}
use Rattle.laws.specs.Pick.{pick}
use Rattle.laws.specs.Over.{over, sets_over}
use Rattle.laws.specs.Decimal.{number_at}
use Rattle.paper.specs.Answer.{same}
use Rattle.journal.specs.declared.Form.TheVariants.{New}
use Rattle.journal.specs.Line.{in_range}
use Rattle.entry.specs.Says.{Wrote}
use Rattle.clock.specs.Clock.{greatest_hour, start_of, Note, note, first_of, dose_in, heard_by, passed_by, Runs}
use Rattle.clock.specs.declared.Heard.{Heard}
use Rattle.clock.specs.declared.Heard.TheVariants.{Ticked, Dosed, Restarted, Lost, Other}
use Rattle.clock.specs.declared.Clock.{Clock}
use Rattle.clock.specs.declared.Marked.{Marked}

-- ---- before the first line

pub record Starts (k : Clock) : Type 0 where
  pub is : k ≡ start_of
  pub runs : Runs k

-- two results that both meet the contract are equal
pub start-determined : {a b : Clock} → Starts a → Starts b → a ≡ b
start-determined p q = same p.is q.is

-- ---- text in a lent buffer

-- how many bytes a writer wrote: none where it refused
unfoldable pub size_of : Wrote → ℕ
size_of (Ok n) = n
size_of (Err e) = 0

-- the text stands at `at`, everything else is as it was, and the place after it is answered; it has at most so many bytes
pub record Prints (most : ℕ) (old : List ℕ) (at : ℕ) (text new : List ℕ) (r : ℕ) : Type 0 where
  pub left : new ≡ sets old at text
  pub next : r ≡ at + length text
  pub short : length text ≤ most

-- the next clock is the note's, and its text stands behind `at` bytes
pub record Adds (at : ℕ) (n : Note) (old new : List ℕ) (r : Marked) : Type 0 where
  pub next : r.next ≡ n.next
  pub prints : Prints 31 old at n.text new r.len

-- and at the buffer's start, the rest of which is as it was
pub record Writes (n : Note) (old new : List ℕ) (r : Marked) : Type 0 where
  pub next : r.next ≡ n.next
  pub left : new ≡ over n.text old
  pub len : r.len ≡ length n.text

-- a text at the buffer's start
pub prints-writes : {n : Note} {most : ℕ} {old new : List ℕ} {r : Marked} → most ≤ length old → r.next ≡ n.next → Prints most old 0 n.text new r.len → Writes n old new r
prints-writes {n} {most} {old} h e p = record { next = e; left = p.left ∙ sets_over old n.text (omega (arith, p.short)); len = p.next ∙ zero-add (length n.text) }

pub writes_as : {n m : Note} {old new : List ℕ} {r : Marked} → n ≡ m → Writes m old new r → Writes n old new r
writes_as {n} {m} {old} {new} {r} e w = subst (λ (x : Note). Writes x old new r) (sym e) w

-- nothing is written
pub writes-none : {next : Clock} {n : Note} {old : List ℕ} → note next [] ≡ n → Writes n old old (record { next = next; len = 0 })
unfolding over
writes-none e = writes_as (sym e) (record { next = refl; left = refl; len = refl })

-- ---- the calls

-- with less than 64 bytes of room nothing is noted
unfoldable pub roomed : ℕ → Clock → Note → Note
roomed room k n = pick (leb 64 room) n (note k [])

-- the record of a dose is within the ranges of a D line
unfoldable pub fits_line : Heard → Bool
fits_line Ticked = true
fits_line (Dosed d) = in_range New (dose_in 0 d)
fits_line Restarted = true
fits_line Lost = true
fits_line Other = true

-- and then it is never refused
abbrev pub Writable : Heard → Type 0
Writable h = fits_line h ≡ true

-- a dose that no D line holds is not noted
unfoldable pub fitted : Clock → Heard → Note
fitted k h = pick (fits_line h) (heard_by k h) (note k [])

-- the note stands at the buffer's start, the rest of which is as it was
pub record Does (k : Clock) (n : Note) (old new : List ℕ) (r : Marked) : Type 0 where
  pub writes : Writes (roomed (length old) k n) old new r
  pub runs : Runs r.next

-- the first line
abbrev pub Opens : Clock → List ℕ → List ℕ → List ℕ → Marked → Type 0
Opens k line = Does k (first_of k (number_at greatest_hour line))

-- a line that is heard
abbrev pub Marks : Clock → Heard → List ℕ → List ℕ → Marked → Type 0
Marks k h = Does k (fitted k h)

-- a line that is no counted tick
pub record Passes (k : Clock) (h : Heard) (r : Clock) : Type 0 where
  pub next : r ≡ passed_by k h
  pub runs : Runs k → Runs r

-- two results that both meet a contract are equal, of the first line and of one that is heard
pub does-determined : {k : Clock} {n : Note} {old new new' : List ℕ} {a b : Marked} → Does k n old new a → Does k n old new' b → (a ≡ b) × (new ≡ new')
does-determined p q = (
  ap₂ (λ (k : Clock) (n : ℕ). record { next = k; len = n }) (same p.writes.next q.writes.next) (same p.writes.len q.writes.len),
  same p.writes.left q.writes.left,
)

pub passed-determined : {k : Clock} {h : Heard} {a b : Clock} → Passes k h a → Passes k h b → a ≡ b
passed-determined p q = same p.next q.next
