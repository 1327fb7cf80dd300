-- What the answers of the frame's writer and reader say, in the paper's words. Assumes nothing.
use Rattle.std.specs.Prelude.{◌≡◌, refl, Bool, List, [], ◌∷◌, ◌++◌, ℕ, ◌-◌, length, replicate, Result, Ok, Err}
use Rattle.paper.specs.Answer.{Answer, done, refused, told, Fills, same, fills_one}
use Rattle.paper.specs.Numbers.{R6, R8, R9, R14}
use Rattle.frame.specs.Check.{check}
use Rattle.frame.specs.Frame.{framable, write_of}
use Rattle.frame.specs.Read.{Finished, read_of}
use Rattle.frame.specs.declared.WriteError.{WriteError}
use Rattle.frame.specs.declared.WriteError.TheVariants as W
use Rattle.frame.specs.declared.ReadError.{ReadError}
use Rattle.frame.specs.declared.ReadError.TheVariants as E
use Rattle.frame.specs.declared.Finished as declared

abbrev pub says_wrote : Result ℕ WriteError → Answer ℕ
says_wrote (Ok n) = done n
says_wrote (Err W.R14) = refused R14 []
says_wrote (Err W.R8) = refused R8 []

-- the body that is handed over; R9 and R6 with their places
abbrev pub says_found : Result declared.Finished ReadError → Answer declared.Finished
says_found (Ok f) = done f
says_found (Err (E.R9 place)) = refused R9 (place ∷ [])
says_found (Err (E.R6 place)) = refused R6 (place ∷ [])

-- two answers that say the same are equal
pub wrote_one : (a b : Result ℕ WriteError) → says_wrote a ≡ says_wrote b → a ≡ b
wrote_one (Ok n) (Ok m) e = cc
wrote_one (Ok n) (Err W.R14) e = cc
wrote_one (Ok n) (Err W.R8) e = cc
wrote_one (Err W.R14) (Ok m) e = cc
wrote_one (Err W.R14) (Err W.R14) e = refl
wrote_one (Err W.R14) (Err W.R8) e = cc
wrote_one (Err W.R8) (Ok m) e = cc
wrote_one (Err W.R8) (Err W.R14) e = cc
wrote_one (Err W.R8) (Err W.R8) e = refl

pub found-one : (a b : Result declared.Finished ReadError) → says_found a ≡ says_found b → a ≡ b
found-one (Ok f) (Ok g) e = cc
found-one (Ok f) (Err (E.R9 q)) e = cc
found-one (Ok f) (Err (E.R6 q)) e = cc
found-one (Err (E.R9 p)) (Ok g) e = cc
found-one (Err (E.R9 p)) (Err (E.R9 q)) e = cc
found-one (Err (E.R9 p)) (Err (E.R6 q)) e = cc
found-one (Err (E.R6 p)) (Ok g) e = cc
found-one (Err (E.R6 p)) (Err (E.R9 q)) e = cc
found-one (Err (E.R6 p)) (Err (E.R6 q)) e = cc

-- a body is handed over in an array of 255 whose places past it are 0
abbrev pub handed : Finished → declared.Finished
handed f = record { place = f.place; len = length f.bytes; body = f.bytes ++ replicate (255 - length f.bytes) 0 }

-- what the reader answers: the rule's body, handed over, or the rule's refusal
abbrev pub ReadsFrame : List ℕ → Result declared.Finished ReadError → Type 0
ReadsFrame s r = says_found r ≡ told handed (read_of s)

-- what the other calls' results have to meet
abbrev pub ChecksTo : List ℕ → ℕ → Type 0
ChecksTo body r = r ≡ check body

abbrev pub TellsFramable : List ℕ → Bool → Type 0
TellsFramable body r = r ≡ framable body

abbrev pub Writes : List ℕ → List ℕ → List ℕ → Result ℕ WriteError → Type 0
Writes body old new r = Fills (says_wrote r) (write_of body (length old)) old new

-- two results that both meet a call's contract are equal
pub check-determined : (body : List ℕ) (a b : ℕ) → ChecksTo body a → ChecksTo body b → a ≡ b
check-determined body a b p q = same p q

pub framable-determined : (body : List ℕ) (a b : Bool) → TellsFramable body a → TellsFramable body b → a ≡ b
framable-determined body a b p q = same p q

pub write-determined : (body old new new' : List ℕ) (a b : Result ℕ WriteError) → Writes body old new a → Writes body old new' b → (a ≡ b) × (new ≡ new')
write-determined body old new new' a b p q = (wrote_one a b (fills_one p q).0, (fills_one p q).1)

pub read-determined : (s : List ℕ) (a b : Result declared.Finished ReadError) → ReadsFrame s a → ReadsFrame s b → a ≡ b
read-determined s a b p q = found-one a b (same p q)
