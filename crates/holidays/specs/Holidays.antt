-- The days of a recording: a day is a holiday exactly if it was seen in full, no dose completed in it, and no hole of the dose numbers covers any of its hours. Assumes nothing.
use Rattle.std.specs.Prelude.{◌≡◌, refl, Bool, true, false, List, [], ◌∷◌, ◌++◌, ℕ, ◌+◌, ◌<◌}
use Rattle.std.proofs.Common.{sym, ◌∙◌, true≢false}
use Rattle.std.proofs.Math.Path.{ap}
use native.Mathlib.Omega.{arith}
use Rattle.laws.specs.Pick.{pick}
use Rattle.paper.specs.Answer.{done}
use Rattle.journal.specs.Journal.{journal_of}
use Rattle.journal.specs.declared.Line.{Line}
use Rattle.holes.specs.Holes.{in_hole}
use Rattle.hourly.specs.declared.Products.TheVariants.{All}
use Rattle.hourly.specs.Hours.{measured_or_idle, hour_of}
use Rattle.holes.specs.HoleLaws.{Exactly}
use Rattle.counters.specs.declared.Record.{Record}
use Rattle.controller.specs.State.{fresh_of}
use Rattle.series.specs.Events.{Event, run, hands_back, records}
use Rattle.series.specs.Lines.{hour_with}
use Rattle.series.specs.Products.{asked-all}
use Rattle.weekly.specs.Week.{day_by}
use Rattle.weekly.specs.Day.{is_idle, is_holiday, day_of}
use Rattle.weekly.specs.Kinds.{holiday-exactly, all-exactly}
use Rattle.weekly.specs.declared.Kind.TheVariants.{Holiday}
use Rattle.recorder.specs.Recording.{record_of}
use Rattle.consumption.specs.Consumption.{Script, heard_in, hour_lines, seen_in_full, doses_in, events_of, consumption, no-hole}

-- an hour of a recording that is idle: no hole covers it, it was seen in full, and no dose completed in it
pub record Quiet (hole seen : Bool) (doses : List Record) : Type 0 where
  pub whole : hole ≡ false
  pub full : seen ≡ true
  pub none : doses ≡ []

quiet-exactly : (hole seen : Bool) (doses : List Record) → Exactly (is_idle (hour_with hole seen doses) ≡ true) (Quiet hole seen doses)
unfolding hour_with measured_or_idle pick
quiet-exactly true seen doses = (λ e. absurd (true≢false (sym e)), λ q. absurd (true≢false q.whole))
quiet-exactly false false doses = (λ e. absurd (true≢false (sym e)), λ q. absurd (true≢false (sym q.full)))
quiet-exactly false true [] = (λ e. record { whole = refl; full = refl; none = refl }, λ q. refl)
quiet-exactly false true (d ∷ ds) = (λ e. absurd (true≢false (sym e)), λ q. some q)
  where
    some : Quiet false true (d ∷ ds) → false ≡ true
    some q =
        let e : d ∷ ds ≡ [] = q.none in
        let z : ◌≡◌ {A = ℕ} 0 1 = cc in
        absurd (omega arith)

module _ (input : List ℕ) (s : Script input) (ls : List Line) (accepted : journal_of (record_of input) ≡ done ls) where
  -- the hour number n of the recording
  abbrev pub QuietAt : ℕ → Type 0
  QuietAt n = Quiet (in_hole (s.first + n) ls) (seen_in_full n (heard_in s)) (doses_in (hour_lines n (heard_in s)))

  hour-quiet : (n : ℕ) → Exactly (is_idle (hour_of All ls (s.first + n)) ≡ true) (QuietAt n)
  hour-quiet n =
      let all = ap (hour_with (in_hole (s.first + n) ls) (seen_in_full n (heard_in s))) (asked-all (doses_in (hour_lines n (heard_in s)))) in
      let e = ap is_idle (consumption input s ls accepted All n ∙ all) in
      let q = quiet-exactly (in_hole (s.first + n) ls) (seen_in_full n (heard_in s)) (doses_in (hour_lines n (heard_in s))) in
      (λ h. q.0 (sym e ∙ h), λ h. e ∙ q.1 h)

  -- a day is a holiday exactly if all of its 24 hours were seen in full, no dose completed in any, and no hole covers any
  pub holiday : (n : ℕ) → Exactly ((day_of ls (s.first + n)).kind ≡ Holiday) ((k : ℕ) → k < 24 → QuietAt (n + k))
  unfolding day_of day_by is_holiday
  holiday n =
      let day = holiday-exactly (day_by (hour_of All ls) (s.first + n)) in
      let hours = all-exactly is_idle (λ (k : ℕ). hour_of All ls (s.first + n + k)) 24 in (
        λ e k h. (hour-quiet (n + k)).0 (ap (λ (i : ℕ). is_idle (hour_of All ls i)) (place n k) ∙ hours.0 (day.0 e) k h),
        λ e. day.1 (hours.1 (λ k h. ap (λ (i : ℕ). is_idle (hour_of All ls i)) (sym (place n k)) ∙ (hour-quiet (n + k)).1 (e k h))),
      )
    where
      place : (n k : ℕ) → s.first + (n + k) ≡ s.first + n + k
      place n k = omega arith

  -- where from the first dose on the script's restarts hand the counters back no hole covers any hour: so every day that was seen in full and in which no dose completed is a holiday
  pub holiday-handed : (before es : List Event) → events_of s.script ≡ before ++ es → records fresh_of before ≡ [] → hands_back (run fresh_of before) es ≡ true
      → (n : ℕ) → ((k : ℕ) → k < 24 → (seen_in_full (n + k) (heard_in s) ≡ true) × (doses_in (hour_lines (n + k) (heard_in s)) ≡ [])) → (day_of ls (s.first + n)).kind ≡ Holiday
  holiday-handed before es w none e n seen =
      (holiday n).1 (λ k h. record { whole = no-hole input s ls accepted before es w none e (s.first + (n + k)); full = (seen k h).0; none = (seen k h).1 })
