-- What a watch says in the paper's words, the contract of each call, and that two results that both meet it are equal. Assumes nothing.
use Rattle.std.specs.Prelude.{◌≡◌, refl, Bool, [], ◌∷◌, ℕ, Option, Some, None}
use Rattle.paper.specs.Answer.{Answer, done, fault, same}
use Rattle.paper.specs.Numbers.{F14}
use Rattle.settings.specs.declared.Settings.{Settings}
use Rattle.dosing.specs.declared.Gates.{Gates}
use Rattle.channels.specs.Channels.{outputs_of, start_of, runs_after, watch_of}
use Rattle.channels.specs.declared.Runs.{Runs}

-- no fault, or F14 naming its channel
abbrev pub says_watch : Option ℕ → Answer (Unit {0})
says_watch None = done tt
says_watch (Some channel) = fault F14 (channel ∷ [])

-- ---- the contracts

abbrev pub Shows : Gates → Bool → ℕ → Type 0
Shows g four r = r ≡ outputs_of g four

abbrev pub Starts : Settings → Bool → ℕ → Bool → Type 0
Starts set link inputs r = r ≡ start_of set link inputs

abbrev pub Moves : Settings → Gates → ℕ → Runs → Runs → Type 0
Moves set g inputs runs r = r ≡ runs_after set g inputs runs

abbrev pub Watches : Runs → Option ℕ → Type 0
Watches runs r = says_watch r ≡ watch_of runs

-- ---- each is met by one result

pub watch-one : (a b : Option ℕ) → says_watch a ≡ says_watch b → a ≡ b
watch-one None None e = refl
watch-one None (Some channel) e = cc
watch-one (Some channel) None e = cc
watch-one (Some channel) (Some other) e = cc

pub outputs-determined : (g : Gates) (four : Bool) (a b : ℕ) → Shows g four a → Shows g four b → a ≡ b
outputs-determined g four a b p q = same p q

pub start-determined : (set : Settings) (link : Bool) (inputs : ℕ) (a b : Bool) → Starts set link inputs a → Starts set link inputs b → a ≡ b
start-determined set link inputs a b p q = same p q

pub runs-determined : (set : Settings) (g : Gates) (inputs : ℕ) (runs a b : Runs) → Moves set g inputs runs a → Moves set g inputs runs b → a ≡ b
runs-determined set g inputs runs a b p q = same p q

pub reached-determined : (runs : Runs) (a b : Option ℕ) → Watches runs a → Watches runs b → a ≡ b
reached-determined runs a b p q = watch-one a b (same p q)
