-- The contract of each call, and that two results that both meet it are equal. Assumes nothing.
use Rattle.std.specs.Prelude.{◌≡◌, Bool, ℕ, Option}
use Rattle.paper.specs.Answer.{same}
use Rattle.dosing.specs.declared.Dose.{Dose}
use Rattle.counters.specs.Counters.{counters_after, record_of}
use Rattle.counters.specs.declared.Counters.{Counters}
use Rattle.counters.specs.declared.Record.{Record}

abbrev pub Counts : Counters → Option Dose → Counters → Type 0
Counts n dose r = r ≡ counters_after n dose

abbrev pub Records : ℕ → Counters → ℕ → Bool → Record → Type 0
Records product after amount settled r = r ≡ record_of product after amount settled

pub counters-determined : (n : Counters) (dose : Option Dose) (a b : Counters) → Counts n dose a → Counts n dose b → a ≡ b
counters-determined n dose a b p q = same p q

pub record-determined : (product : ℕ) (after : Counters) (amount : ℕ) (settled : Bool) (a b : Record) → Records product after amount settled a → Records product after amount settled b → a ≡ b
record-determined product after amount settled a b p q = same p q
