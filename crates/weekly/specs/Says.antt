-- What the answers of the week's calls say, in the paper's words, and that two which say the same are equal. Assumes nothing.
use Rattle.std.specs.Prelude.{◌≡◌, refl, List, [], map, replicate, Result, Ok, Err}
use Rattle.std.proofs.Common.{sym, ap, arith}
use Rattle.paper.specs.Answer.{Answer, done, refused}
use Rattle.paper.specs.AnswerLaws.{refused-done}
use Rattle.paper.specs.Numbers.{R10, R11, R12, R13, R21}
use Rattle.journal.specs.Says.{says_refusal, refusal-one, refusal-done}
use Rattle.journal.specs.declared.Refusal.{Refusal}
use Rattle.journal.specs.declared.Refusal.TheVariants as R
use Rattle.hourly.specs.Hours.{HourAnswer}
use Rattle.hourly.specs.Says.{says_hour}
use Rattle.hourly.specs.declared.Hour.{Hour}
use Rattle.hourly.specs.declared.Hour.TheVariants as H
use Rattle.weekly.specs.declared.WeekError.{WeekError}
use Rattle.weekly.specs.declared.WeekError.TheVariants as E
use Rattle.weekly.specs.declared.Day.{Day}

-- why there is no week: the journal's refusal, with its line; or R21, which names nothing
abbrev pub says_error : {X : Type 0} → WeekError → Answer X
says_error (E.Refused r) = says_refusal r
says_error E.R21 = refused R21 []

-- what was asked for, or why there is no week
abbrev pub says_said : {X : Type 0} → Result X WeekError → Answer X
says_said (Ok x) = done x
says_said (Err e) = says_error e

-- where there is no week every hour is missing
abbrev pub no_hours : List (List Hour)
no_hours = replicate 7 (replicate 24 H.Missing)

-- the hours that stand in the answer
unfoldable pub hours_in : Result (List (List Hour)) WeekError → List (List Hour)
hours_in (Ok week) = week
hours_in (Err e) = no_hours

-- a week's hour answers
unfoldable pub says_hours : List (List Hour) → List (List HourAnswer)
says_hours week = map (map says_hour) week

abbrev pub says_weekly : Result (List (List Hour)) WeekError → Answer (List (List HourAnswer))
says_weekly (Ok week) = done (says_hours week)
says_weekly (Err e) = says_error e

abbrev pub says_days : Result (List Day) WeekError → Answer (List Day)
says_days r = says_said r

-- no refusal of a journal is R21
pub refusal-r21 : {X Q : Type 0} (r : Refusal) → says_refusal {X = X} r ≡ refused R21 [] → Q
refusal-r21 (R.R10 n) e = let z : R10 ≡ R21 = cc in absurd (omega arith)
refusal-r21 (R.R11 n) e = let z : R11 ≡ R21 = cc in absurd (omega arith)
refusal-r21 (R.R12 n) e = let z : R12 ≡ R21 = cc in absurd (omega arith)
refusal-r21 R.R13 e = let z : R13 ≡ R21 = cc in absurd (omega arith)

-- an error is no answer
pub error-done : {X Q : Type 0} {x : X} (a : WeekError) → says_error a ≡ done x → Q
error-done (E.Refused r) e = refusal-done r e
error-done E.R21 e = refused-done e

-- two that say the same say it in the same way
pub error-one : {X : Type 0} (a b : WeekError) → says_error {X = X} a ≡ says_error b → a ≡ b
error-one (E.Refused q) (E.Refused r) e = ap (λ (z : Refusal). E.Refused z) (refusal-one q r e)
error-one (E.Refused q) E.R21 e = refusal-r21 q e
error-one E.R21 (E.Refused r) e = refusal-r21 r (sym e)
error-one E.R21 E.R21 e = refl

pub said-one : {X : Type 0} (a b : Result X WeekError) → says_said a ≡ says_said b → a ≡ b
said-one (Ok x) (Ok y) e = cc
said-one (Ok x) (Err b) e = error-done b (sym e)
said-one (Err a) (Ok y) e = error-done a e
said-one {X} (Err a) (Err b) e = ap (λ (z : WeekError). Err z) (error-one {X = X} a b e)
