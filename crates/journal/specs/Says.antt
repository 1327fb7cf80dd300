-- What the journal's answers say, in the paper's words. Assumes nothing.
use Rattle.std.specs.Prelude.{◌≡◌, refl, Option, Some, None, Result, Ok, Err, List, [], ◌∷◌, ℕ, get_or}
use Rattle.std.proofs.Common.{sym, arith}
use Rattle.paper.specs.Answer.{Answer, done, refused, told}
use Rattle.paper.specs.AnswerLaws.{refused-done}
use Rattle.paper.specs.Numbers.{R10, R11, R12, R13}
use Rattle.journal.specs.Line.{Single, version, dated, Place, holds, no_line}
use Rattle.journal.specs.LineLaws.{holds-none}
use Rattle.journal.specs.declared.Line.{Line}
use Rattle.journal.specs.declared.Entry.{Entry}
use Rattle.journal.specs.declared.Entry.TheVariants as O
use Rattle.journal.specs.declared.LineError.{LineError}
use Rattle.journal.specs.declared.LineError.TheVariants as E
use Rattle.journal.specs.declared.Refusal.{Refusal}
use Rattle.journal.specs.declared.Refusal.TheVariants as R
use Rattle.journal.specs.declared.Named.{Named}

-- what a reader of one line by itself answers: R10 with line 1
abbrev pub One : Type 0
One = Result Entry LineError

abbrev pub says_one : One → Answer Single
says_one (Ok O.Version) = done version
says_one (Ok (O.Line l)) = done (dated l)
says_one (Err E.R10) = refused R10 (1 ∷ [])

-- a line and the place after it, or that no line stands there: it refuses nothing
abbrev pub At : Type 0
At = Option (Line × ℕ)

abbrev pub says_at : At → Place
says_at (Some (l, n)) = holds l n
says_at None = no_line

-- R10 to R12 with the line; R13 names nothing
abbrev pub says_refusal : {X : Type 0} → Refusal → Answer X
says_refusal (R.R10 n) = refused R10 (n ∷ [])
says_refusal (R.R11 n) = refused R11 (n ∷ [])
says_refusal (R.R12 n) = refused R12 (n ∷ [])
says_refusal R.R13 = refused R13 []

-- the number of a refusal and its line: 1 is the first; 0 for R13
unfoldable pub names_of : Refusal → Named
names_of (R.R10 n) = record { number = R10; line = n }
names_of (R.R11 n) = record { number = R11; line = n }
names_of (R.R12 n) = record { number = R12; line = n }
names_of R.R13 = record { number = R13; line = 0 }

-- two answers that say the same are equal
pub one-one : (a b : One) → says_one a ≡ says_one b → a ≡ b
one-one (Ok O.Version) (Ok O.Version) e = refl
one-one (Ok O.Version) (Ok (O.Line m)) e = let z : ◌≡◌ {A = ℕ} 0 1 = cc in absurd (omega arith)
one-one (Ok O.Version) (Err E.R10) e = refused-done (sym e)
one-one (Ok (O.Line l)) (Ok O.Version) e = let z : ◌≡◌ {A = ℕ} 0 1 = cc in absurd (omega arith)
one-one (Ok (O.Line l)) (Ok (O.Line m)) e = cc
one-one (Ok (O.Line l)) (Err E.R10) e = refused-done (sym e)
one-one (Err E.R10) (Ok O.Version) e = refused-done e
one-one (Err E.R10) (Ok (O.Line m)) e = refused-done e
one-one (Err E.R10) (Err E.R10) e = refl

pub at_one : (a b : At) → says_at a ≡ says_at b → a ≡ b
at_one (Some (l, n)) (Some (m, k)) e =
    let a : l ≡ m = cc in
    let b : n ≡ k = cc in
    rw (a, b)
at_one (Some (l, n)) None e = holds-none e
at_one None (Some (m, k)) e = holds-none (sym e)
at_one None None e = refl

pub refusal-one : {X : Type 0} (a b : Refusal) → says_refusal {X = X} a ≡ says_refusal b → a ≡ b
refusal-one (R.R10 n) (R.R10 m) e = cc
refusal-one (R.R10 n) (R.R11 m) e = cc
refusal-one (R.R10 n) (R.R12 m) e = cc
refusal-one (R.R10 n) R.R13 e = cc
refusal-one (R.R11 n) (R.R10 m) e = cc
refusal-one (R.R11 n) (R.R11 m) e = cc
refusal-one (R.R11 n) (R.R12 m) e = cc
refusal-one (R.R11 n) R.R13 e = cc
refusal-one (R.R12 n) (R.R10 m) e = cc
refusal-one (R.R12 n) (R.R11 m) e = cc
refusal-one (R.R12 n) (R.R12 m) e = cc
refusal-one (R.R12 n) R.R13 e = cc
refusal-one R.R13 (R.R10 m) e = cc
refusal-one R.R13 (R.R11 m) e = cc
refusal-one R.R13 (R.R12 m) e = cc
refusal-one R.R13 R.R13 e = refl

-- no refusal is done
pub refusal-done : {X Q : Type 0} {x : X} (r : Refusal) → says_refusal r ≡ done x → Q
refusal-done (R.R10 n) e = refused-done e
refusal-done (R.R11 n) e = refused-done e
refusal-done (R.R12 n) e = refused-done e
refusal-done R.R13 e = refused-done e

-- a refusal is the same, whatever would have been told
pub refusal-told : {X Y : Type 0} (f : X → Y) (r : Refusal) → says_refusal r ≡ told f (says_refusal r)
unfolding told
refusal-told f (R.R10 n) = refl
refusal-told f (R.R11 n) = refl
refusal-told f (R.R12 n) = refl
refusal-told f R.R13 = refl

-- what a refusal says is its number, and the line that it names where it names one
pub refusal-names : {X : Type 0} (r : Refusal) → (vs : List ℕ) × (says_refusal {X = X} r ≡ refused (names_of r).number vs) × (get_or vs 0 0 ≡ (names_of r).line)
unfolding names_of
refusal-names (R.R10 n) = (n ∷ [], refl, refl)
refusal-names (R.R11 n) = (n ∷ [], refl, refl)
refusal-names (R.R12 n) = (n ∷ [], refl, refl)
refusal-names R.R13 = ([], refl, refl)
