-- What the answers of splitting and building say, in the paper's words. Assumes nothing.
use Rattle.std.specs.Prelude.{◌≡◌, refl, List, [], ◌++◌, ℕ, ◌-◌, length, replicate, Result, Ok, Err}
use Rattle.std.proofs.Common.{arith}
use Rattle.paper.specs.Answer.{Answer, done, refused, told, same}
use Rattle.paper.specs.Numbers.{R6, R14}
use Rattle.message.specs.Message.{split_of, improper, build_of}
use Rattle.message.specs.declared.Form.{Form}
use Rattle.message.specs.declared.Parts.{Parts}
use Rattle.message.specs.declared.SplitError.{SplitError}
use Rattle.message.specs.declared.SplitError.TheVariants as S
use Rattle.message.specs.declared.Body.{Body}
use Rattle.message.specs.declared.BuildError.{BuildError}
use Rattle.message.specs.declared.BuildError.TheVariants as B

abbrev pub says_split : Result Parts SplitError → Answer Parts
says_split (Ok p) = done p
says_split (Err S.R6) = refused R6 []

abbrev pub says_built : Result Body BuildError → Answer Body
says_built (Ok b) = done b
says_built (Err B.Improper) = refused improper []
says_built (Err B.R14) = refused R14 []

-- two answers that say the same are equal
pub split_one : (a b : Result Parts SplitError) → says_split a ≡ says_split b → a ≡ b
split_one (Ok p) (Ok q) e = cc
split_one (Ok p) (Err S.R6) e = cc
split_one (Err S.R6) (Ok q) e = cc
split_one (Err S.R6) (Err S.R6) e = refl

pub built-one : (a b : Result Body BuildError) → says_built a ≡ says_built b → a ≡ b
built-one (Ok a) (Ok b) e = cc
built-one (Ok a) (Err B.Improper) e = cc
built-one (Ok a) (Err B.R14) e = cc
built-one (Err B.Improper) (Ok b) e = cc
built-one (Err B.Improper) (Err B.Improper) e = refl
built-one (Err B.Improper) (Err B.R14) e = let z : ◌≡◌ {A = ℕ} improper R14 = cc in let f : ⊥ = omega arith in absurd f
built-one (Err B.R14) (Ok b) e = cc
built-one (Err B.R14) (Err B.Improper) e = let z : ◌≡◌ {A = ℕ} R14 improper = cc in let f : ⊥ = omega arith in absurd f
built-one (Err B.R14) (Err B.R14) e = refl

-- a body is handed over in an array of 254 whose places past it are 0
abbrev pub handed : List ℕ → Body
handed body = record { bytes = body ++ replicate (254 - length body) 0; len = length body }

-- what each call's result has to meet
abbrev pub Splits : List ℕ → Result Parts SplitError → Type 0
Splits body r = says_split r ≡ split_of body

abbrev pub Builds : Form → ℕ → List ℕ → Result Body BuildError → Type 0
Builds form operation data' r = says_built r ≡ told handed (build_of form operation data')

-- two results that both meet a call's contract are equal
pub split-determined : (body : List ℕ) (a b : Result Parts SplitError) → Splits body a → Splits body b → a ≡ b
split-determined body a b p q = split_one a b (same p q)

pub build-determined : (form : Form) (operation : ℕ) (data' : List ℕ) (a b : Result Body BuildError) → Builds form operation data' a → Builds form operation data' b → a ≡ b
build-determined form operation data' a b p q = built-one a b (same p q)
