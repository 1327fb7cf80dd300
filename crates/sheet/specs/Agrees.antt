-- The week agrees with the hour program, hour by hour. Assumes nothing.
use Rattle.std.specs.Result.{is_ok}
use Rattle.std.specs.Prelude.{◌≡◌, Bool, true, false, ◌⊎◌, ℕ, ◌+◌, ◌*◌, ◌<◌, leb, get_or, Result, Ok, Err}
use Rattle.std.proofs.Common.{sym, ap, ◌∙◌, inl, inr, true≢false}
use mathlib.Core.List.Memᴰ
use mathlib.Core.List.{List, [], ◌∷◌, map, Memᴰ}
use Rattle.laws.specs.Pick.{pick}
use Rattle.paper.specs.Answer.{Answer, done, refused, told, on_done}
use Rattle.paper.specs.AnswerLaws.{refused-done}
use Rattle.paper.specs.Numbers.{R21}
use Rattle.journal.specs.Journal.{journal_of, first_hour, last_hour}
use Rattle.journal.specs.declared.Line.{Line}
use Rattle.hourly.specs.declared.Products.TheVariants.{All}
use Rattle.hourly.specs.declared.Hour.{Hour}
use Rattle.hourly.specs.Hours.{HourAnswer, missing, amounts_at, hour_of}
use Rattle.hourly.specs.Text.{HourRow, row_from, row_of, span_of, rows_of}
use Rattle.hourly.specs.Accepted.{Accepted}
use Rattle.hourly.specs.Bounds.{outside-missing, empty-missing}
use Rattle.weekly.specs.Week.{day_by, week_by, week_of, first_of, after_journal}
use Rattle.weekly.specs.Says.{says_hours, hours_in}
use Rattle.weekly.specs.Promises.{MakesWeek}
use Rattle.weekly.specs.declared.WeekError.{WeekError}
use Rattle.weekly.specs.Lists.{list_at}

-- hour k of day d of a week
abbrev pub hour_at : List (List HourAnswer) → ℕ → ℕ → HourAnswer
hour_at week d k = get_or (get_or week d []) k missing

-- is the hour program's answer of that hour
pub week-hour : (ls : List Line) (first d k : ℕ) → d < 7 → k < 24 → hour_at (week_of ls first) d k ≡ hour_of All ls (first + 24 * d + k)
unfolding week_of week_by day_by
week-hour ls first d k h b =
    ap (λ (day : List HourAnswer). get_or day k missing) (list_at (λ (i : ℕ). day_by (hour_of All ls) (first + 24 * i)) 7 d [] h)
    ∙ list_at (λ (i : ℕ). hour_of All ls (first + 24 * d + i)) 24 k missing b

-- a row that the hour program prints is that of its hour
printed-row : (ls : List Line) (hs : List ℕ) (p : HourRow) → Memᴰ p (map (λ h. record { hour = h; row = row_of All ls h }) hs) → p.row ≡ row_of All ls p.hour
printed-row ls [] p m = absurd (Memᴰ.not-nil m)
printed-row ls (h ∷ hs) p m = go (Memᴰ.cases_cons m) (printed-row ls hs p)
  where
    go : (p ≡ record { hour = h; row = row_of All ls h }) ⊎ Memᴰ p (map (λ h. record { hour = h; row = row_of All ls h }) hs) → (Memᴰ p (map (λ h. record { hour = h; row = row_of All ls h }) hs) → p.row ≡ row_of All ls p.hour) → p.row ≡ row_of All ls p.hour
    go (inl e) rest = ap (λ (q : HourRow). q.row) e ∙ ap (λ (q : HourRow). row_of All ls q.hour) (sym e)
    go (inr n) rest = rest n

-- so each row that the hour program prints of an hour of the week is the row of the week's hour there
pub agrees : (ls : List Line) (first d k : ℕ) (p : HourRow) → d < 7 → k < 24 → Memᴰ p (rows_of All ls) → p.hour ≡ first + 24 * d + k
    → p.row ≡ row_from (hour_at (week_of ls first) d k) (amounts_at All p.hour ls)
unfolding rows_of row_of
agrees ls first d k p h b m e =
    printed-row ls (span_of ls) p m
    ∙ ap (λ (x : HourAnswer). row_from x (amounts_at All p.hour ls)) (ap (hour_of All ls) e ∙ sym (week-hour ls first d k h b))

-- and each hour of the week of which it prints none, before the first line's or after the last line's, is missing
pub outside : {s : List ℕ} (ls : List Line) (first d k : ℕ) → Accepted s ls → d < 7 → k < 24 → (first + 24 * d + k < first_hour ls) ⊎ (last_hour ls < first + 24 * d + k) → hour_at (week_of ls first) d k ≡ missing
outside ls first d k a h b o = week-hour ls first d k h b ∙ outside-missing All ls (first + 24 * d + k) a o

pub empty : (first d k : ℕ) → d < 7 → k < 24 → hour_at (week_of [] first) d k ≡ missing
empty first d k h b = week-hour [] first d k h b ∙ empty-missing All (first + 24 * d + k)

-- ---- joined: an answer of `week_of` and the rows of the hour program

-- the hours of a week that was made are those of the journal's lines
pub made-hours : (s : List ℕ) (first : ℕ) (r : Result (List (List Hour)) WeekError) (ls : List Line) → MakesWeek s first r → journal_of s ≡ done ls → is_ok r ≡ true → says_hours (hours_in r) ≡ week_of ls first
unfolding after_journal on_done told first_of pick hours_in
made-hours s first (Ok week) ls m j e = go (leb first 9999832) (m ∙ ap (λ (a : Answer (List Line)). on_done a (λ l. told (week_of l) (first_of first))) j)
  where
    go : (b : Bool) → done (says_hours week) ≡ told (week_of ls) (pick b (done first) (refused R21 [])) → says_hours week ≡ week_of ls first
    go true q = cc
    go false q = refused-done (sym q)
made-hours s first (Err x) ls m j e = absurd (true≢false (sym e))

-- so the hours that the one call hands over and the rows that the other prints agree
pub calls-agree : (s : List ℕ) (first : ℕ) (r : Result (List (List Hour)) WeekError) (ls : List Line) (d k : ℕ) (p : HourRow) → MakesWeek s first r → journal_of s ≡ done ls → is_ok r ≡ true → d < 7 → k < 24 → Memᴰ p (rows_of All ls) → p.hour ≡ first + 24 * d + k
    → p.row ≡ row_from (hour_at (says_hours (hours_in r)) d k) (amounts_at All p.hour ls)
calls-agree s first r ls d k p m j e h b i q =
    agrees ls first d k p h b i q
    ∙ ap (λ (w : List (List HourAnswer)). row_from (hour_at w d k) (amounts_at All p.hour ls)) (sym (made-hours s first r ls m j e))
