-- What a weighing says in the paper's words, the contract of each call, and that two results that both meet it are equal. Assumes nothing.
use Rattle.std.specs.Prelude.{◌≡◌, Bool, List, ℕ, ℤ, ◌-ℤ◌, Result}
use Rattle.paper.specs.Answer.{Answer, same}
use Rattle.settings.specs.declared.Settings.{Settings}
use Rattle.window.specs.Window.{samples_of}
use Rattle.window.specs.declared.Window.{Window}
use Rattle.field.specs.Says.{says_got, got-one}
use Rattle.field.specs.declared.FieldError.{FieldError}
use Rattle.field.specs.declared.Weight.{Weight}
use Rattle.dosing.specs.Rules.{units}
use Rattle.dosing.specs.declared.Units.{Units}
use Rattle.dosing.specs.declared.Gates.{Gates}
use Rattle.dosing.specs.declared.Seen.{Seen}
use Rattle.scale.specs.Scale.{outside, none, as_window, filtered_lent, filter_of, calm_by_mean, calm_by_gates, stable_of, over_capacity, seen_by, weight_by, showable}

-- a weight that a reply can show, or R16
abbrev pub says_weighed : Result Weight FieldError → Answer Weight
says_weighed = says_got

-- ---- the contracts

abbrev pub Excludes : Units → Bool → Type 0
Excludes x r = r ≡ outside x.v

abbrev pub Lacks : List ℤ → ℕ → Bool → Type 0
Lacks samples held r = r ≡ none (samples_of (as_window samples held))

abbrev pub MeansLent : List ℤ → ℕ → ℕ → Units → Type 0
MeansLent samples held n r = r ≡ units (filtered_lent samples held n)

abbrev pub Filters : Settings → Gates → ℕ → Type 0
Filters set g r = r ≡ filter_of set g

abbrev pub CalmsByMean : Bool → Units → Units → ℕ → ℕ → Type 0
CalmsByMean first f previous s r = r ≡ calm_by_mean first f.v previous.v s

abbrev pub CalmsByGates : Gates → Gates → ℕ → ℕ → Type 0
CalmsByGates old new s r = r ≡ calm_by_gates old new s

abbrev pub Steadies : Settings → ℕ → Bool → Type 0
Steadies set s r = r ≡ stable_of set s

-- w = F-Z
abbrev pub Overs : Settings → Units → Units → Bool → Type 0
Overs set f z r = r ≡ over_capacity set (f.v -ℤ z.v)

abbrev pub Sees : Settings → Units → Units → ℕ → Bool → Seen → Type 0
Sees set f z s start r = r ≡ seen_by set f z s start

abbrev pub Weighs : Settings → Window → Units → ℕ → ℕ → Result Weight FieldError → Type 0
Weighs set window z s n r = says_weighed r ≡ showable (weight_by set window z s n)

-- ---- each is met by one result

pub weighed-one : (a b : Result Weight FieldError) → says_weighed a ≡ says_weighed b → a ≡ b
weighed-one a b e = got-one a b e

pub outside-determined : (x : Units) (a b : Bool) → Excludes x a → Excludes x b → a ≡ b
outside-determined x a b p q = same p q

pub none-determined : (samples : List ℤ) (held : ℕ) (a b : Bool) → Lacks samples held a → Lacks samples held b → a ≡ b
none-determined samples held a b p q = same p q

pub lent-determined : (samples : List ℤ) (held n : ℕ) (a b : Units) → MeansLent samples held n a → MeansLent samples held n b → a ≡ b
lent-determined samples held n a b p q = same p q

pub filter-determined : (set : Settings) (g : Gates) (a b : ℕ) → Filters set g a → Filters set g b → a ≡ b
filter-determined set g a b p q = same p q

pub calm-by-mean-determined : (first : Bool) (f previous : Units) (s a b : ℕ) → CalmsByMean first f previous s a → CalmsByMean first f previous s b → a ≡ b
calm-by-mean-determined first f previous s a b p q = same p q

pub calm-by-gates-determined : (old new : Gates) (s a b : ℕ) → CalmsByGates old new s a → CalmsByGates old new s b → a ≡ b
calm-by-gates-determined old new s a b p q = same p q

pub stable-determined : (set : Settings) (s : ℕ) (a b : Bool) → Steadies set s a → Steadies set s b → a ≡ b
stable-determined set s a b p q = same p q

pub over-determined : (set : Settings) (f z : Units) (a b : Bool) → Overs set f z a → Overs set f z b → a ≡ b
over-determined set f z a b p q = same p q

pub see-determined : (set : Settings) (f z : Units) (s : ℕ) (start : Bool) (a b : Seen) → Sees set f z s start a → Sees set f z s start b → a ≡ b
see-determined set f z s start a b p q = same p q

pub weigh-determined : (set : Settings) (window : Window) (z : Units) (s n : ℕ) (a b : Result Weight FieldError) → Weighs set window z s n a → Weighs set window z s n b → a ≡ b
weigh-determined set window z s n a b p q = weighed-one a b (same p q)
