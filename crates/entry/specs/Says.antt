-- What the answer of a line's writer says, in the paper's words. Assumes nothing.
use Rattle.std.specs.Prelude.{◌≡◌, refl, Result, Ok, Err, List, [], ◌∷◌, ℕ, length}
use Rattle.paper.specs.Answer.{Answer, done, refused, Fills, fills_one}
use Rattle.paper.specs.Numbers.{R8, R10}
use Rattle.journal.specs.Line.{write_of, write_version_of}
use Rattle.journal.specs.declared.Form.{Form}
use Rattle.journal.specs.declared.Line.{Line}
use Rattle.entry.specs.declared.WriteError.{WriteError}
use Rattle.entry.specs.declared.WriteError.TheVariants as E

-- the length of what was written, or a refusal
abbrev pub Wrote : Type 0
Wrote = Result ℕ WriteError

-- a writer's R10 carries line 0
abbrev pub says_wrote : Wrote → Answer ℕ
says_wrote (Ok n) = done n
says_wrote (Err E.R10) = refused R10 (0 ∷ [])
says_wrote (Err E.R8) = refused R8 []

-- two answers that say the same are equal
pub wrote_one : (a b : Wrote) → says_wrote a ≡ says_wrote b → a ≡ b
wrote_one (Ok n) (Ok m) e = cc
wrote_one (Ok n) (Err E.R10) e = cc
wrote_one (Ok n) (Err E.R8) e = cc
wrote_one (Err E.R10) (Ok m) e = cc
wrote_one (Err E.R10) (Err E.R10) e = refl
wrote_one (Err E.R10) (Err E.R8) e = cc
wrote_one (Err E.R8) (Ok m) e = cc
wrote_one (Err E.R8) (Err E.R10) e = cc
wrote_one (Err E.R8) (Err E.R8) e = refl

-- write: the line's text in its form from the buffer's start, or R10, or R8
abbrev pub WritesLine : Form → Line → Wrote → List ℕ → List ℕ → Type 0
WritesLine form line r old new = Fills (says_wrote r) (write_of form line (length old)) old new

-- write_version: the V line's text from the buffer's start, or R8
abbrev pub WritesVersion : Wrote → List ℕ → List ℕ → Type 0
WritesVersion r old new = Fills (says_wrote r) (write_version_of (length old)) old new

-- two results that both meet a call's contract are equal
pub write-determined : (form : Form) (line : Line) (old new new' : List ℕ) (a b : Wrote) → WritesLine form line a old new → WritesLine form line b old new' → (a ≡ b) × (new ≡ new')
write-determined form line old new new' a b p q = (wrote_one a b (fills_one p q).0, (fills_one p q).1)

pub write-version-determined : (old new new' : List ℕ) (a b : Wrote) → WritesVersion a old new → WritesVersion b old new' → (a ≡ b) × (new ≡ new')
write-version-determined old new new' a b p q = (wrote_one a b (fills_one p q).0, (fills_one p q).1)
