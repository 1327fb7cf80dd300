-- From the hours by a table to the week and the days of a journal. Assumes nothing.
use Rattle.std.proofs.Common.{◌≡◌, refl, sym, ap, ◌∙◌, subst}
use Rattle.std.proofs.Common.{List, [], map, ℕ, ◌≤◌, ◌<◌, leb, le-leb}
use Rattle.std.specs.Prelude.{Result, Ok, Err}
use Rattle.std.proofs.lemmas.Bool.{lt-leb}
use Rattle.laws.specs.Pick.{pick-t, pick-f}
use Rattle.paper.specs.Answer.{Answer, done, refused, fault, told, on_done}
use Rattle.paper.specs.AnswerLaws.{on-done, refused-done, fault-done}
use Rattle.paper.specs.Numbers.{R21}
use Rattle.journal.specs.Journal.{journal_of}
use Rattle.journal.specs.Says.{says_refusal, refusal-done, refusal-told}
use Rattle.journal.specs.declared.Line.{Line}
use Rattle.journal.specs.declared.Refusal.{Refusal}
use Rattle.hourly.specs.declared.Products.TheVariants.{All}
use Rattle.hourly.specs.Hours.{HourAnswer, hour_of}
use Rattle.hourly.specs.Accepted.{Accepted, accepted}
use Rattle.hourly.proofs.Among.{among-hour}
use Rattle.hourly.specs.Tally.{Tells, lines_of, summary_of, hour_among}
use Rattle.hourly.specs.TallyLaws.{Found}
use Rattle.hourly.specs.declared.Hour.{Hour}
use Rattle.hourly.specs.declared.Summary.{Summary}
use Rattle.hourly.specs.declared.Tally.{Tally}
use Rattle.weekly.specs.Week.{week_by, week_of, first_of, after_journal}
use Rattle.weekly.specs.Day.{days_of}
use Rattle.weekly.specs.Says.{says_error, says_weekly, says_hours, error-done}
use Rattle.weekly.specs.Counted.{Each, Whole, day_from, WeekBy}
use Rattle.weekly.specs.Promises.{MakesWeek, MakesDays}
use Rattle.weekly.specs.Lists.{week-same, week-each}
use Rattle.weekly.specs.Sums.{hour-whole, days-same}
use Rattle.weekly.specs.declared.WeekError.{WeekError}
use Rattle.weekly.specs.declared.WeekError.TheVariants as E
use Rattle.weekly.specs.declared.Day.{Day}

-- ---- the first hour

late : (first : ℕ) → 9999832 < first → first_of first ≡ refused R21 []
unfolding first_of
late first h = pick-f (leb first 9999832) (done first) (refused R21 []) (lt-leb first 9999832 h)

in-time : (first : ℕ) → first ≤ 9999832 → first_of first ≡ done first
unfolding first_of
in-time first h = pick-t (leb first 9999832) (done first) (refused R21 []) (le-leb first 9999832 h)

-- ---- the week

module _ (f : ℕ → HourAnswer) (first : ℕ) where
  abbrev rule : Answer (List (List HourAnswer))
  rule = told (week_by f) (first_of first)

  pub late-week : 9999832 < first → says_weekly (Err E.R21) ≡ rule
  unfolding told
  late-week h = sym (ap (told (week_by f)) (late first h))

  pub made-week : (week : List (List Hour)) → first ≤ 9999832 → says_hours week ≡ week_by f first → says_weekly (Ok week) ≡ rule
  unfolding told
  made-week week h w = ap done w ∙ sym (ap (told (week_by f)) (in-time first h))

told_same : {A B : Type 0} (f g : A → B) (a : Answer A) → ((x : A) → f x ≡ g x) → told f a ≡ told g a
unfolding told
told_same f g (done x) e = ap done (e x)
told_same f g (refused n vs) e = refl
told_same f g (fault n vs) e = refl

module _ {s : List ℕ} {found : Summary} {table : List Tally} (f : Found s found) (t : Tells All table found.first (lines_of s)) (first : ℕ) where
  abbrev hours : ℕ → HourAnswer
  hours = hour_among table found

  -- of an accepted journal the rule is that of its lines
  accepted-rule : {X : Type 0} (what : List Line → ℕ → X) → told (what (lines_of s)) (first_of first) ≡ after_journal s (first_of first) what
  unfolding after_journal on_done
  accepted-rule what = sym (ap (λ (a : Answer (List Line)). on_done a (λ ls. told (what ls) (first_of first))) f.journal)

  pub week-made : (r : Result (List (List Hour)) WeekError) → WeekBy table found first r → MakesWeek s first r
  unfolding week_of
  week-made r w =
      w
      ∙ told_same (week_by hours) (week_of (lines_of s)) (first_of first) (λ h. week-same hours (hour_of All (lines_of s)) h (among-hour f t))
      ∙ accepted-rule week_of

-- ---- a journal that is refused

pub week-refused : (s : List ℕ) (first : ℕ) (q : Refusal) → says_refusal q ≡ told summary_of (journal_of s) → MakesWeek s first (Err (E.Refused q))
unfolding after_journal on_done told
week-refused s first q e = go (journal_of s) e
  where
    go : (a : Answer (List Line)) → says_refusal q ≡ told summary_of a → says_refusal q ≡ on_done a (λ ls. told (week_of ls) (first_of first))
    go (done ls) h = refusal-done q h
    go (refused n vs) h = refusal-told (λ (m : Summary). []) q ∙ ap (told (λ (m : Summary). [])) h
    go (fault n vs) h = refusal-told (λ (m : Summary). []) q ∙ ap (told (λ (m : Summary). [])) h

-- ---- the days, by the answer of the week

-- of a week that was made the hours' sums are whole, and its days are the rule's
pub record Made (s : List ℕ) (first : ℕ) (hours : List (List HourAnswer)) : Type 0 where
  pub whole : Each (Each Whole) hours
  pub days : done (map day_from hours) ≡ after_journal s (first_of first) days_of

pub week-holds : (s : List ℕ) (first : ℕ) (hours : List (List HourAnswer)) → done hours ≡ after_journal s (first_of first) week_of → Made s first hours
unfolding after_journal on_done told week_of
week-holds s first hours e = on-done (journal_of s) (λ ls. told (week_of ls) (first_of first)) hours (sym e) made
  where
    go : (ls : List Line) → Accepted s ls → (a : Answer ℕ) → told (week_of ls) a ≡ done hours → Each (Each Whole) hours × (done (map day_from hours) ≡ told (days_of ls) a)
    go ls a (done f) t =
        let h : week_of ls f ≡ hours = cc in (
          subst (Each (Each Whole)) h (week-each Whole (hour_of All ls) f (λ k. hour-whole ls k a)),
          ap done (ap (map day_from) (sym h) ∙ days-same ls f a),
        )
    go ls a (refused n vs) t = refused-done t
    go ls a (fault n vs) t = fault-done t

    made : (ls : List Line) → journal_of s ≡ done ls → told (week_of ls) (first_of first) ≡ done hours → Made s first hours
    made ls j t =
        let g = go ls (accepted s ls j) (first_of first) t in
        record { whole = g.0; days = g.1 ∙ sym (ap (λ (a : Answer (List Line)). on_done a (λ l. told (days_of l) (first_of first))) j) }

error-told : {X Y : Type 0} (f : X → Y) (e : WeekError) → says_error {X = Y} e ≡ told f (says_error {X = X} e)
unfolding told
error-told f (E.Refused q) = refusal-told f q
error-told f E.R21 = refl

-- where there is no week there are no days either, for the same reason
pub days-refused : (s : List ℕ) (first : ℕ) (e : WeekError) → MakesWeek s first (Err e) → MakesDays s first (Err e)
unfolding after_journal on_done told
days-refused s first e m = go (journal_of s) m
  where
    none : List (List HourAnswer) → List Day
    none w = []

    late : (ls : List Line) (a : Answer ℕ) → says_error e ≡ told (week_of ls) a → says_error e ≡ told (days_of ls) a
    late ls (done f) h = error-done e h
    late ls (refused n vs) h = error-told none e ∙ ap (told none) h
    late ls (fault n vs) h = error-told none e ∙ ap (told none) h

    go : (a : Answer (List Line)) → says_error e ≡ on_done a (λ ls. told (week_of ls) (first_of first)) → says_error e ≡ on_done a (λ ls. told (days_of ls) (first_of first))
    go (done ls) h = late ls (first_of first) h
    go (refused n vs) h = error-told none e ∙ ap (told none) h
    go (fault n vs) h = error-told none e ∙ ap (told none) h
