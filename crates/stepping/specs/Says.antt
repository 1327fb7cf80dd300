-- The contract of each call, and that two results that both meet it are equal. Assumes nothing.
use Rattle.std.specs.Prelude.{◌≡◌, Bool, List, ℕ, ℤ}
use Rattle.paper.specs.Answer.{same}
use Rattle.settings.specs.declared.Settings.{Settings}
use Rattle.dosing.specs.declared.Units.{Units}
use Rattle.dosing.specs.declared.Gates.{Gates}
use Rattle.dosing.specs.declared.Phase.{Phase}
use Rattle.counters.specs.declared.Counters.{Counters}
use Rattle.stepping.specs.Stepping.{sample_of, at_ready, stepped_of}
use Rattle.stepping.specs.declared.Sampled.{Sampled}
use Rattle.stepping.specs.declared.Stepped.{Stepped}

abbrev pub Samples : Settings → Gates → Bool → List ℤ → ℕ → Units → ℕ → Sampled → Type 0
Samples set gates first samples held f s r = r ≡ sample_of set gates first samples held f s

abbrev pub Rests : Phase → Bool → Type 0
Rests phase r = r ≡ at_ready phase

abbrev pub Steps : Settings → Phase → Units → Units → ℕ → Gates → Counters → Bool → Stepped → Type 0
Steps set began f z s gates n start r = r ≡ stepped_of set began f z s gates n start

pub sample-determined : (set : Settings) (gates : Gates) (first : Bool) (samples : List ℤ) (held : ℕ) (f : Units) (s : ℕ) (a b : Sampled) → Samples set gates first samples held f s a → Samples set gates first samples held f s b → a ≡ b
sample-determined set gates first samples held f s a b p q = same p q

pub ready-determined : (phase : Phase) (a b : Bool) → Rests phase a → Rests phase b → a ≡ b
ready-determined phase a b p q = same p q

pub step-determined : (set : Settings) (began : Phase) (f z : Units) (s : ℕ) (gates : Gates) (n : Counters) (start : Bool) (a b : Stepped) → Steps set began f z s gates n start a → Steps set began f z s gates n start b → a ≡ b
step-determined set began f z s gates n start a b p q = same p q
