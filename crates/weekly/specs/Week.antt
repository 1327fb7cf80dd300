-- The week: seven days of twenty-four hours from a given first hour (document 02, W12). Assumes nothing.
use Rattle.std.specs.Prelude.{◌≡◌, refl, List, [], ◌∷◌, ◌++◌, ℕ, zero, suc, ◌+◌, ◌*◌, leb}
use Rattle.std.proofs.Common.{ap}
use Rattle.laws.specs.Pick.{pick}
use Rattle.paper.specs.Answer.{Answer, done, refused, told, on_done}
use Rattle.paper.specs.Numbers.{R21}
use Rattle.journal.specs.Journal.{journal_of}
use Rattle.journal.specs.declared.Line.{Line}
use Rattle.hourly.specs.declared.Products.TheVariants.{All}
use Rattle.hourly.specs.Hours.{HourAnswer, hour_of}

-- f 0, f 1, .., n of them
unfoldable pub list_of : {A : Type 0} → (ℕ → A) → ℕ → List A
list_of f zero = []
list_of f (suc n) = list_of f n ++ (f n ∷ [])

-- a day of twenty-four hours, from hour h on
unfoldable pub day_by : (ℕ → HourAnswer) → ℕ → List HourAnswer
day_by hour h = list_of (λ (k : ℕ). hour (h + k)) 24

-- seven days of twenty-four hours from a given first hour
unfoldable pub week_by : (ℕ → HourAnswer) → ℕ → List (List HourAnswer)
week_by hour first = list_of (λ (d : ℕ). day_by hour (first + 24 * d)) 7

-- each measured, idle or missing as the hour rules say (an hour outside the journal has no H, so they say missing)
unfoldable pub week_of : List Line → ℕ → List (List HourAnswer)
week_of ls first = week_by (hour_of All ls) first

-- a first hour that is malformed or above 9,999,832 is R21: so the week's last hour is at most 9,999,999
abbrev pub latest : ℕ
latest = 9999832

unfoldable pub first_of : ℕ → Answer ℕ
first_of first = pick (leb first latest) (done first) (refused R21 [])

-- R21 after the journal's own refusals
unfoldable pub after_journal : {X : Type 0} → List ℕ → Answer ℕ → (List Line → ℕ → X) → Answer X
after_journal s first what = on_done (journal_of s) (λ ls. told (what ls) first)

-- so a refused journal answers its own refusal, whatever the first hour
pub journal-first : {X : Type 0} (s : List ℕ) (first : Answer ℕ) (what : List Line → ℕ → X) (n : ℕ) (vs : List ℕ) → journal_of s ≡ refused n vs → after_journal s first what ≡ refused n vs
unfolding after_journal on_done
journal-first s first what n vs e = ap (λ (a : Answer (List Line)). on_done a (λ ls. told (what ls) first)) e

pub first-cases : (first_of 0 ≡ done 0) × (first_of 9999832 ≡ done 9999832) × (first_of 9999833 ≡ refused R21 [])
unfolding first_of pick
first-cases = (refl, refl, refl)
