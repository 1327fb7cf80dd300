-- What the first line of the input is, where it stands, and what stands behind it. Assumes nothing.
use Rattle.std.specs.Prelude.{◌≡◌, true, false, List, [], ◌∷◌, ◌++◌, ◌⊎◌, ℕ, ◌-◌, ◌≤◌, ◌<◌, length, take, drop}
use Rattle.std.proofs.Common.{ap, subst, inl, inr}
use Rattle.text.specs.Scan.{LF}
use Rattle.lines.specs.Lines.{Plain, asked}
use Rattle.lines.specs.Places.{part_of}
use Rattle.lines.specs.Intake.{pending}
use Rattle.lines.specs.declared.Intake.{Intake}
use Rattle.heading.specs.declared.Found.{Found}
use Rattle.heading.specs.declared.Found.TheVariants as F
use Rattle.heading.specs.declared.Headed.{Headed}

-- a line that was found lies in the buffer, before its LF
abbrev pub Inside : Found → ℕ → Type 0
Inside (F.Line from to) size = (from ≤ to) × (to < size)
Inside F.More size = Unit
Inside F.Nothing size = Unit

-- what a rule says of the line that was found, and `none` where there is none
unfoldable pub said_of : {A : Type 0} → (List ℕ → A) → A → Found → List ℕ → A
said_of rule none (F.Line from to) buffer = rule (part_of from to buffer)
said_of rule none F.More buffer = none
said_of rule none F.Nothing buffer = none

pub said-line : {A : Type 0} (rule : List ℕ → A) (none : A) (found : Found) (buffer : List ℕ) (from to : ℕ) → found ≡ F.Line from to → said_of rule none found buffer ≡ rule (take (to - from) (drop from buffer))
unfolding said_of part_of
said-line rule none found buffer from to e = ap (λ (f : Found). said_of rule none f buffer) e

pub said_more : {A : Type 0} (rule : List ℕ → A) (none : A) (found : Found) (buffer : List ℕ) → found ≡ F.More → said_of rule none found buffer ≡ none
unfolding said_of
said_more rule none found buffer e = ap (λ (f : Found). said_of rule none f buffer) e

pub said-nothing : {A : Type 0} (rule : List ℕ → A) (none : A) (found : Found) (buffer : List ℕ) → found ≡ F.Nothing → said_of rule none found buffer ≡ none
unfolding said_of
said-nothing rule none found buffer e = ap (λ (f : Found). said_of rule none f buffer) e

pub no-line : {A : Type 0} (rule : List ℕ → A) (none : A) (found : Found) (buffer : List ℕ) → (found ≡ F.More) ⊎ (found ≡ F.Nothing) → said_of rule none found buffer ≡ none
no-line rule none found buffer (inl e) = said_more rule none found buffer e
no-line rule none found buffer (inr e) = said-nothing rule none found buffer e

-- the line that was found lies in the buffer
pub line-inside : (found : Found) (from to size : ℕ) → Inside found size → found ≡ F.Line from to → (from ≤ to) × (to < size)
line-inside found from to size i e = subst (λ (f : Found). Inside f size) e i

-- no LF has come yet: what came is what is pending, behind bytes that were dropped as too long already
pub record Begun (came : List ℕ) (i : Intake) (buffer : List ℕ) : Type 0 where
  pub gone : List ℕ
  pub whole : came ≡ gone ++ pending i buffer
  pub plain : Plain gone
  pub size : ((i.long ≡ false) × (gone ≡ [])) ⊎ ((i.long ≡ true) × (4095 < length gone))

-- what came is the first line, its LF and what is pending; the line stands in the buffer, an empty one where it has more than 4,095 bytes
pub record Cut (came : List ℕ) (from to : ℕ) (i : Intake) (buffer : List ℕ) : Type 0 where
  pub order : from ≤ to
  pub inside : to < length buffer
  pub line : List ℕ
  pub whole : came ≡ line ++ LF ∷ pending i buffer
  pub plain : Plain line
  pub stands : part_of from to buffer ≡ asked line

-- what is said of the bytes that came: their first line; that no LF was seen in them; or that the input ended without one
abbrev pub Heads : List ℕ → Found → Intake → List ℕ → Type 0
Heads came (F.Line from to) i buffer = Cut came from to i buffer
Heads came F.More i buffer = Begun came i buffer
Heads came F.Nothing i buffer = Plain came

-- a turn: whatever came before it, with what it read
pub record Turns (i : Intake) (old new : List ℕ) (r : Headed) : Type 0 where
  pub brought : List ℕ
  pub heads : (came : List ℕ) → Begun came i old → Heads (came ++ brought) r.found r.intake new

-- read_heading: what is said is true of the bytes that the reads brought
pub record ReadsHeading (new : List ℕ) (r : Headed) : Type 0 where
  pub came : List ℕ
  pub heads : Heads came r.found r.intake new

-- read_journal: what was pending behind the first line, and then what the reads brought; where there is no first line there is no journal
pub record Continues (h : Headed) (old new : List ℕ) (n : ℕ) : Type 0 where
  pub brought : List ℕ
  pub whole : take n new ≡ pending h.intake old ++ brought
  pub within : n ≤ length new

abbrev pub Behind : Headed → Found → List ℕ → List ℕ → ℕ → Type 0
Behind h (F.Line from to) old new n = Continues h old new n
Behind h F.More old new n = Continues h old new n
Behind h F.Nothing old new n = n ≡ 0

heads-inside : (came : List ℕ) (f : Found) (i : Intake) (buffer : List ℕ) → Heads came f i buffer → Inside f (length buffer)
heads-inside came (F.Line from to) i buffer h = (h.order, h.inside)
heads-inside came F.More i buffer h = tt
heads-inside came F.Nothing i buffer h = tt

-- the line that was found lies in the buffer
pub heading-inside : (new : List ℕ) (r : Headed) → ReadsHeading new r → Inside r.found (length new)
heading-inside new r h = heads-inside h.came r.found r.intake new h.heads
