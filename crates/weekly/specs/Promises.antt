-- What each call of this crate promises, and that two results which both keep the promise are equal. Assumes nothing.
use Rattle.std.specs.Prelude.{◌≡◌, refl, List, [], ◌∷◌, map, ℕ, Result, Ok, Err}
use Rattle.std.proofs.Common.{sym, ap}
use Rattle.paper.specs.Answer.{Answer, same}
use Rattle.hourly.specs.Hours.{HourAnswer}
use Rattle.hourly.specs.Says.{says_hour, hour-one}
use Rattle.hourly.specs.declared.Hour.{Hour}
use Rattle.weekly.specs.Week.{week_of, first_of, after_journal}
use Rattle.weekly.specs.Day.{days_of}
use Rattle.weekly.specs.Says.{says_weekly, says_days, says_hours, hours_in, error-done, error-one, said-one}
use Rattle.weekly.specs.declared.WeekError.{WeekError}
use Rattle.weekly.specs.declared.Day.{Day}

-- week_of: the week's hours, or the journal's refusal, or R21
abbrev pub MakesWeek : List ℕ → ℕ → Result (List (List Hour)) WeekError → Type 0
MakesWeek s first r = says_weekly r ≡ after_journal s (first_of first) week_of

-- hours_in: the hours that stand in the answer, each missing where there is no week
abbrev pub HoldsHours : Result (List (List Hour)) WeekError → List (List Hour) → Type 0
HoldsHours w r = r ≡ hours_in w

-- days_of: the week's days, or the journal's refusal, or R21
abbrev pub MakesDays : List ℕ → ℕ → Result (List Day) WeekError → Type 0
MakesDays s first r = says_days r ≡ after_journal s (first_of first) days_of

-- ---- two answers that both keep the promise are equal

cons-one : {A : Type 0} {x y : A} {xs ys : List A} → x ∷ xs ≡ y ∷ ys → (x ≡ y) × (xs ≡ ys)
cons-one e = (cc, cc)

map-one : {A B : Type 0} (f : A → B) → ((x y : A) → f x ≡ f y → x ≡ y) → (xs ys : List A) → map f xs ≡ map f ys → xs ≡ ys
map-one f g [] [] e = refl
map-one f g [] (y ∷ ys) e = cc
map-one f g (x ∷ xs) [] e = cc
map-one f g (x ∷ xs) (y ∷ ys) e =
    let c = cons-one e in
    let p : x ≡ y = g x y c.0 in
    let q : xs ≡ ys = map-one f g xs ys c.1 in
    cc

hours-one : (a b : List (List Hour)) → says_hours a ≡ says_hours b → a ≡ b
unfolding says_hours
hours-one a b e = map-one (map says_hour) (map-one says_hour hour-one) a b e

pub weekly-one : (a b : Result (List (List Hour)) WeekError) → says_weekly a ≡ says_weekly b → a ≡ b
weekly-one (Ok w) (Ok v) e = let h : says_hours w ≡ says_hours v = cc in ap (λ (x : List (List Hour)). Ok x) (hours-one w v h)
weekly-one (Ok w) (Err b) e = error-done b (sym e)
weekly-one (Err a) (Ok v) e = error-done a e
weekly-one (Err a) (Err b) e = ap (λ (x : WeekError). Err x) (error-one {X = List (List HourAnswer)} a b e)

pub week-is-one : {rule : Answer (List (List HourAnswer))} (a b : Result (List (List Hour)) WeekError) → says_weekly a ≡ rule → says_weekly b ≡ rule → a ≡ b
week-is-one a b p q = weekly-one a b (same p q)

pub days-are-one : {rule : Answer (List Day)} (a b : Result (List Day) WeekError) → says_days a ≡ rule → says_days b ≡ rule → a ≡ b
days-are-one a b p q = said-one a b (same p q)

pub week-determined : (s : List ℕ) (first : ℕ) (a b : Result (List (List Hour)) WeekError) → MakesWeek s first a → MakesWeek s first b → a ≡ b
week-determined s first a b p q = week-is-one a b p q

pub hours-determined : (w : Result (List (List Hour)) WeekError) (a b : List (List Hour)) → HoldsHours w a → HoldsHours w b → a ≡ b
hours-determined w a b p q = same p q

pub days-determined : (s : List ℕ) (first : ℕ) (a b : Result (List Day) WeekError) → MakesDays s first a → MakesDays s first b → a ≡ b
days-determined s first a b p q = days-are-one a b p q
