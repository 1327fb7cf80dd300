-- What the stages say in the paper's words, the contract of each call, and that two results that both meet it are equal. Assumes nothing.
use Rattle.std.specs.Prelude.{◌≡◌, refl, Bool, List, [], ◌∷◌, ℕ, ◌≤◌, eqb, length, take, get_or, Option, Some, None, Result, Ok, Err}
use Rattle.std.proofs.Common.{sym, ap, ◌∙◌}
use Rattle.laws.specs.Pick.{pick}
use Rattle.paper.specs.Answer.{Answer, done, refused, fault, Fills, same, fills_one}
use Rattle.paper.specs.Numbers.{R3, R4, R5, R6, R7, R8, R9, R14}
use Rattle.message.specs.declared.Form.{Form}
use Rattle.message.specs.declared.Parts.{Parts}
use Rattle.asking.specs.Asking.{heard_of, address_of, code_of, time_of, zero_of, reply_of}
use Rattle.message.specs.declared.SplitError.{SplitError}
use Rattle.message.specs.declared.SplitError.TheVariants as P
use Rattle.frame.specs.declared.ReadError.{ReadError}
use Rattle.frame.specs.declared.ReadError.TheVariants as F
use Rattle.frame.specs.declared.WriteError.{WriteError}
use Rattle.frame.specs.declared.WriteError.TheVariants as W
use Rattle.message.specs.declared.BuildError.{BuildError}
use Rattle.message.specs.declared.BuildError.TheVariants as B
use Rattle.asking.specs.declared.Heard.{Heard}
use Rattle.asking.specs.declared.RequestError.{RequestError}
use Rattle.asking.specs.declared.RequestError.TheVariants as E
use Rattle.asking.specs.declared.Reply.{Reply}
use Rattle.asking.specs.declared.SendError.{SendError}
use Rattle.asking.specs.declared.SendError.TheVariants as S
use Rattle.message.specs.Message.{improper}

-- ---- the stages: what passes, or the refusal with its place

abbrev pub says_error : {A : Type 0} → RequestError → Answer A
says_error (E.R9 place) = refused R9 (place ∷ [])
says_error (E.R6 place) = refused R6 (place ∷ [])
says_error (E.R5 place) = refused R5 (place ∷ [])
says_error (E.R7 place) = refused R7 (place ∷ [])
says_error (E.R3 place) = refused R3 (place ∷ [])
says_error (E.R4 place) = refused R4 (place ∷ [])
says_error (E.R8 place) = refused R8 (place ∷ [])

abbrev pub says_parts : ℕ → Result Parts SplitError → Answer (ℕ × Parts)
says_parts place (Ok p) = done (place, p)
says_parts place (Err P.R6) = refused R6 (place ∷ [])

abbrev pub says_body : ℕ → Option (Result Parts SplitError) → Answer (ℕ × Parts)
says_body place (Some r) = says_parts place r
says_body place None = refused R9 (place ∷ [])

abbrev pub says_heard : Heard → Answer (ℕ × Parts)
says_heard h = says_body h.place h.body

abbrev pub says_stage : Result (Unit {0}) RequestError → Answer (Unit {0})
says_stage (Ok u) = done u
says_stage (Err e) = says_error e

abbrev pub says_sent : Result ℕ SendError → Answer ℕ
says_sent (Ok n) = done n
says_sent (Err S.Improper) = refused improper []
says_sent (Err S.R14) = refused R14 []
says_sent (Err S.R8) = refused R8 []

-- a refusal of the reader, of building and of the writer, as one of the request or of the reply
abbrev pub read_as : ReadError → RequestError
read_as (F.R9 place) = E.R9 place
read_as (F.R6 place) = E.R6 place

abbrev pub built_as : BuildError → SendError
built_as B.Improper = S.Improper
built_as B.R14 = S.R14

abbrev pub wrote_as : WriteError → SendError
wrote_as W.R14 = S.R14
wrote_as W.R8 = S.R8

-- the bytes are the first of the array of 4
pub record Holds (bytes : List ℕ) (r : List ℕ × ℕ) : Type 0 where
  pub full : length r.0 ≡ 4
  pub small : r.1 ≤ 4
  pub front : take r.1 r.0 ≡ bytes

-- ---- the contracts

abbrev pub Hears : List ℕ → Heard → Type 0
Hears s r = says_heard r ≡ heard_of s

abbrev pub Addresses : ℕ → Form → ℕ → ℕ → Result (Unit {0}) RequestError → Type 0
Addresses place form address serial r = says_stage r ≡ address_of place form address serial

abbrev pub Codes : ℕ → Parts → Result (Unit {0}) RequestError → Type 0
Codes place parts r = says_stage r ≡ code_of place parts

abbrev pub Times : ℕ → Bool → Result (Unit {0}) RequestError → Type 0
Times place in_time r = says_stage r ≡ time_of place in_time

abbrev pub Zeroes : ℕ → Bool → Result (Unit {0}) RequestError → Type 0
Zeroes place may r = says_stage r ≡ zero_of place may

abbrev pub Sends : Form → ℕ → Reply → List ℕ → List ℕ → Result ℕ SendError → Type 0
Sends form operation holds old new r = Fills (says_sent r) (reply_of form operation holds (length old)) old new

-- ---- each is met by one result

pub back_one : {A B : Type 0} (says : A → B) (back : B → A) → ((a : A) → back (says a) ≡ a) → (a b : A) → says a ≡ says b → a ≡ b
back_one says back law a b e = sym (law a) ∙ ap back e ∙ law b

-- the refusal of a number and what it names
unfoldable pub error_back : ℕ → List ℕ → RequestError
error_back n vs =
    let place = get_or vs 0 0 in
    pick (eqb n R9) (E.R9 place)
    (pick (eqb n R6) (E.R6 place)
    (pick (eqb n R5) (E.R5 place)
    (pick (eqb n R7) (E.R7 place) (pick (eqb n R3) (E.R3 place) (pick (eqb n R4) (E.R4 place) (E.R8 place))))))

heard_back : Answer (ℕ × Parts) → Heard
heard_back (done t) = record { place = t.0; body = Some (Ok t.1) }
heard_back (refused n vs) = record { place = get_or vs 0 0; body = pick (eqb n R9) None (Some (Err P.R6)) }
heard_back (fault n vs) = record { place = 0; body = None }

body-back : (place : ℕ) (b : Option (Result Parts SplitError)) → heard_back (says_body place b) ≡ record { place = place; body = b }
unfolding heard_back pick
body-back place (Some (Ok p)) = refl
body-back place (Some (Err P.R6)) = refl
body-back place None = refl

stage_back : Answer (Unit {0}) → Result (Unit {0}) RequestError
stage_back (done u) = Ok u
stage_back (refused n vs) = Err (error_back n vs)
stage_back (fault n vs) = Err (E.R9 0)

stage-back : (a : Result (Unit {0}) RequestError) → stage_back (says_stage a) ≡ a
unfolding stage_back error_back pick
stage-back (Ok u) = refl
stage-back (Err (E.R9 place)) = refl
stage-back (Err (E.R6 place)) = refl
stage-back (Err (E.R5 place)) = refl
stage-back (Err (E.R7 place)) = refl
stage-back (Err (E.R3 place)) = refl
stage-back (Err (E.R4 place)) = refl
stage-back (Err (E.R8 place)) = refl

sent_back : Answer ℕ → Result ℕ SendError
sent_back (done n) = Ok n
sent_back (refused n vs) = Err (pick (eqb n R14) S.R14 (pick (eqb n R8) S.R8 S.Improper))
sent_back (fault n vs) = Err S.Improper

sent_back_lem : (a : Result ℕ SendError) → sent_back (says_sent a) ≡ a
unfolding sent_back pick
sent_back_lem (Ok n) = refl
sent_back_lem (Err S.Improper) = refl
sent_back_lem (Err S.R14) = refl
sent_back_lem (Err S.R8) = refl

pub heard-one : (a b : Heard) → says_heard a ≡ says_heard b → a ≡ b
heard-one = back_one says_heard heard_back (λ h. body-back h.place h.body)

pub stage-one : (a b : Result (Unit {0}) RequestError) → says_stage a ≡ says_stage b → a ≡ b
stage-one = back_one says_stage stage_back stage-back

pub addressed-one : (a b : Result (Unit {0}) RequestError) → says_stage a ≡ says_stage b → a ≡ b
addressed-one = stage-one

pub coded-one : (a b : Result (Unit {0}) RequestError) → says_stage a ≡ says_stage b → a ≡ b
coded-one = stage-one

pub timed-one : (a b : Result (Unit {0}) RequestError) → says_stage a ≡ says_stage b → a ≡ b
timed-one = stage-one

pub zeroing-one : (a b : Result (Unit {0}) RequestError) → says_stage a ≡ says_stage b → a ≡ b
zeroing-one = stage-one

pub sent-one : (a b : Result ℕ SendError) → says_sent a ≡ says_sent b → a ≡ b
sent-one = back_one says_sent sent_back sent_back_lem

pub hear-determined : (s : List ℕ) (a b : Heard) → Hears s a → Hears s b → a ≡ b
hear-determined s a b p q = heard-one a b (same p q)

pub address-determined : (place : ℕ) (form : Form) (address serial : ℕ) (a b : Result (Unit {0}) RequestError) → Addresses place form address serial a → Addresses place form address serial b → a ≡ b
address-determined place form address serial a b p q = addressed-one a b (same p q)

pub code-determined : (place : ℕ) (parts : Parts) (a b : Result (Unit {0}) RequestError) → Codes place parts a → Codes place parts b → a ≡ b
code-determined place parts a b p q = coded-one a b (same p q)

pub time-determined : (place : ℕ) (in_time : Bool) (a b : Result (Unit {0}) RequestError) → Times place in_time a → Times place in_time b → a ≡ b
time-determined place in_time a b p q = timed-one a b (same p q)

pub zero-determined : (place : ℕ) (may : Bool) (a b : Result (Unit {0}) RequestError) → Zeroes place may a → Zeroes place may b → a ≡ b
zero-determined place may a b p q = zeroing-one a b (same p q)

-- with the lent memory after the call
pub reply-determined : (form : Form) (operation : ℕ) (holds : Reply) (old new new' : List ℕ) (a b : Result ℕ SendError)
    → Sends form operation holds old new a → Sends form operation holds old new' b → (a ≡ b) × (new ≡ new')
reply-determined form operation holds old new new' a b p q = (sent-one a b (fills_one p q).0, (fills_one p q).1)
