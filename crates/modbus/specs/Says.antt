-- What the answers say in the papers' words, and the contract of each call. Assumes nothing.
use Rattle.std.specs.Prelude.{◌≡◌, refl, Bool, true, false, List, [], ℕ, length, Result, Ok, Err}
use Rattle.std.proofs.Common.{ap}
use Rattle.paper.specs.Answer.{Answer, done, refused, in_room, Fills, fills_one, same}
use Rattle.paper.specs.Numbers.{R8, R17}
use Rattle.laws.specs.Whole.{false-true, true-false}
use Rattle.modbus.specs.Crc.{crc, sealed}
use Rattle.modbus.specs.Asks as asks
use Rattle.modbus.specs.Asks.{Heard, heard, hear_of}
use Rattle.modbus.specs.Replies.{reply_of, served_of, link_after}
use Rattle.modbus.specs.declared.Ask.{Ask}
use Rattle.modbus.specs.declared.Ask.TheVariants as A
use Rattle.modbus.specs.declared.Asked.{Asked}
use Rattle.modbus.specs.declared.Asked.TheVariants as Q
use Rattle.modbus.specs.declared.HearError.{HearError}
use Rattle.modbus.specs.declared.HearError.TheVariants as H
use Rattle.modbus.specs.declared.SendError.{SendError}
use Rattle.modbus.specs.declared.SendError.TheVariants as S

abbrev pub asks_of : Ask → asks.Ask
asks_of (A.Registers start quantity) = asks.registers start quantity
asks_of (A.Link on) = asks.link on
asks_of (A.Exception function number) = asks.exception function number

abbrev pub heard_as : Asked → Heard
heard_as (Q.Ours ask) = heard false (asks_of ask)
heard_as (Q.ForAll on) = heard true (asks.link on)

abbrev pub says_hearing : Result Asked HearError → Answer Heard
says_hearing (Ok asked) = done (heard_as asked)
says_hearing (Err H.R17) = refused R17 []

abbrev pub says_sent : Result ℕ SendError → Answer ℕ
says_sent (Ok n) = done n
says_sent (Err S.R8) = refused R8 []

-- two answers that say the same are equal
pub asks-one : (a b : Ask) → asks_of a ≡ asks_of b → a ≡ b
asks-one (A.Registers s q) (A.Registers t r) e = cc
asks-one (A.Registers s q) (A.Link u) e = cc
asks-one (A.Registers s q) (A.Exception f n) e = cc
asks-one (A.Link t) (A.Registers s q) e = cc
asks-one (A.Link t) (A.Link u) e = cc
asks-one (A.Link t) (A.Exception f n) e = cc
asks-one (A.Exception f n) (A.Registers s q) e = cc
asks-one (A.Exception f n) (A.Link u) e = cc
asks-one (A.Exception f n) (A.Exception g m) e = cc

pub asked-one : (a b : Asked) → heard_as a ≡ heard_as b → a ≡ b
asked-one (Q.Ours a) (Q.Ours b) e = ap Q.Ours (asks-one a b (ap (λ (x : Heard). x.ask) e))
asked-one (Q.Ours a) (Q.ForAll u) e = absurd (false-true (ap (λ (x : Heard). x.for_all) e))
asked-one (Q.ForAll t) (Q.Ours b) e = absurd (true-false (ap (λ (x : Heard). x.for_all) e))
asked-one (Q.ForAll t) (Q.ForAll u) e = let l : asks.link t ≡ asks.link u = ap (λ (x : Heard). x.ask) e in cc

pub hearing-one : (a b : Result Asked HearError) → says_hearing a ≡ says_hearing b → a ≡ b
hearing-one (Ok a) (Ok b) e = let h : heard_as a ≡ heard_as b = cc in ap Ok (asked-one a b h)
hearing-one (Ok a) (Err H.R17) e = cc
hearing-one (Err H.R17) (Ok b) e = cc
hearing-one (Err H.R17) (Err H.R17) e = refl

pub sent-one : (a b : Result ℕ SendError) → says_sent a ≡ says_sent b → a ≡ b
sent-one (Ok n) (Ok m) e = cc
sent-one (Ok n) (Err S.R8) e = cc
sent-one (Err S.R8) (Ok m) e = cc
sent-one (Err S.R8) (Err S.R8) e = refl

-- ---- the contracts

-- the CRC of bytes
abbrev pub Sums : List ℕ → ℕ → Type 0
Sums bytes r = r ≡ crc bytes

-- what is heard in a frame
abbrev pub Hears : ℕ → List ℕ → Result Asked HearError → Type 0
Hears address frame r = says_hearing r ≡ hear_of address frame

-- what is sealed stands at the buffer's start, or a refusal leaves it as it was
abbrev pub Seals : List ℕ → List ℕ → List ℕ → Result ℕ SendError → Type 0
Seals body old new r = Fills (says_sent r) (in_room [] (length old) (sealed body)) old new

-- the reply stands at the buffer's start, or a refusal leaves it as it was
abbrev pub Sends : ℕ → List ℕ → Ask → List ℕ → List ℕ → Result ℕ SendError → Type 0
Sends address words ask old new r = Fills (says_sent r) (reply_of address words (asks_of ask) (length old)) old new

-- the same, and nothing is written for what all were asked
abbrev pub Serves : ℕ → List ℕ → Asked → List ℕ → List ℕ → Result ℕ SendError → Type 0
Serves address words asked old new r = Fills (says_sent r) (served_of address words (heard_as asked) (length old)) old new

-- the link start after what was asked
abbrev pub Links : Asked → Bool → Bool → Type 0
Links asked now r = r ≡ link_after (heard_as asked).ask now

-- two results that both meet a call's contract are equal
pub crc16-determined : (bytes : List ℕ) (a b : ℕ) → Sums bytes a → Sums bytes b → a ≡ b
crc16-determined bytes a b p q = same p q

pub hear-determined : (address : ℕ) (frame : List ℕ) (a b : Result Asked HearError) → Hears address frame a → Hears address frame b → a ≡ b
hear-determined address frame a b p q = hearing-one a b (same p q)

-- with the lent memory after the call
pub serve-determined : (address : ℕ) (words : List ℕ) (asked : Asked) (old new new' : List ℕ) (a b : Result ℕ SendError)
    → Serves address words asked old new a → Serves address words asked old new' b → (a ≡ b) × (new ≡ new')
serve-determined address words asked old new new' a b p q = (sent-one a b (fills_one p q).0, (fills_one p q).1)

pub link-determined : (asked : Asked) (now a b : Bool) → Links asked now a → Links asked now b → a ≡ b
link-determined asked now a b p q = same p q
