-- The journal of a series: it is read, and its hours are the hours of the doses. Assumes nothing.
use Rattle.std.specs.Prelude.{◌≡◌, Bool, true, false, ℕ}
use Rattle.std.proofs.Common.{sym, subst, ◌∙◌}
use Rattle.std.proofs.Math.Path.{ap, ap₂}
use mathlib.Core.List.{List, [], ◌++◌, map}
use Rattle.laws.specs.Pick.{pick}
use Rattle.paper.specs.Answer.{Answer, done, told, on_done, in_room}
use Rattle.journal.specs.declared.Form.TheVariants.{New}
use Rattle.journal.specs.declared.Line.{Line}
use Rattle.journal.specs.Journal.{journal_of, journal_text}
use Rattle.journal.specs.Order.{ordered-journal}
use Rattle.holes.specs.Holes.{in_hole}
use Rattle.holes.specs.HoleLaws.{counts_in, all_follow, follow-no-hole}
use Rattle.hourly.specs.declared.Products.{Products}
use Rattle.hourly.specs.declared.Products.TheVariants.{One}
use Rattle.hourly.specs.Hours.{missing, amounts_at, has_on, measured_or_idle, hour_of, ask_of}
use Rattle.hourly.specs.Text.{hours_text, row_from, row_of, print_of}
use Rattle.controller.specs.declared.Controller.{Controller}
use Rattle.controller.specs.Sound.{Sound}
use Rattle.counters.specs.Laws.{AllRecordable}
use Rattle.series.specs.Events.{Event, run, hands_back, records}
use Rattle.series.proofs.Records.{records-recordable}
use Rattle.series.specs.Products.{asked_of, records_while}
use Rattle.series.proofs.Products.{doses-of-product}
use Rattle.series.specs.Holes.{counts_of}
use Rattle.series.proofs.Holes.{records-follow}
use Rattle.series.specs.Lines.{Stamped, dose_of, line_for, JournalOf, lines-range, completed_in, amounts_of, doses-amounts, stamped-amounts, doses-counts, stamped-counts, hour_with, asked_lines, asked_stamps, doses-asked, stamped-asked, asked-records}

pub lines-read : (c : Controller) (es : List Event) (stamps : List Stamped) (ls : List Line) → Sound c → JournalOf c es stamps ls → journal_of (journal_text New ls) ≡ done ls
lines-read c es stamps ls s j =
    ordered-journal New ls j.order
    (lines-range ls stamps j.doses (subst AllRecordable (sym j.whole) (records-recordable es c s)) j.hours)
    j.size

module _ (c : Controller) (es : List Event) (stamps : List Stamped) (ls : List Line) (j : JournalOf c es stamps ls) where
  -- the amounts of an hour are those of the doses completed in it, of the products that are asked for: so its number of doses and its sum are theirs
  pub hour-amounts : (w : Products) (h : ℕ) → amounts_at w h ls ≡ amounts_of (asked_of w (completed_in h stamps))
  hour-amounts w h = doses-amounts w h ls ∙ ap (amounts_at w h) j.doses ∙ stamped-amounts w h stamps

  -- the counts of its D lines are those of the records
  line-counts : counts_in ls ≡ counts_of (records c es)
  line-counts = doses-counts ls ∙ ap counts_in j.doses ∙ stamped-counts stamps ∙ ap counts_of j.whole

  hour-kind : (w : Products) (h : ℕ) → hour_of w ls h ≡ hour_with (in_hole h ls) (has_on h ls) (asked_of w (completed_in h stamps))
  unfolding hour_of hour_with
  hour-kind w h = ap (λ (l : List ℕ). pick (in_hole h ls) missing (pick (has_on h ls) (measured_or_idle l) missing)) (hour-amounts w h)

  -- and so are its kind, its figures and its row in print
  pub hour-answer : Sound c → (w : Products) (h : ℕ) → ask_of w (journal_text New ls) h ≡ done (hour_with (in_hole h ls) (has_on h ls) (asked_of w (completed_in h stamps)))
  unfolding ask_of told
  hour-answer s w h =
      ap (told (λ (m : List Line). hour_of w m h)) (lines-read c es stamps ls s j) ∙ ap done (hour-kind w h)

  pub hour-row : (w : Products) (h : ℕ) → row_of w ls h ≡ row_from (hour_with (in_hole h ls) (has_on h ls) (asked_of w (completed_in h stamps))) (amounts_of (asked_of w (completed_in h stamps)))
  unfolding row_of
  hour-row w h = ap₂ row_from (hour-kind w h) (hour-amounts w h)

  pub hours-printed : Sound c → (w : Products) (room : ℕ) → print_of w (journal_text New ls) room ≡ in_room [] room (hours_text w ls)
  unfolding print_of on_done
  hours-printed s w room = ap (λ (a : Answer (List Line)). on_done a (λ m. in_room [] room (hours_text w m))) (lines-read c es stamps ls s j)

-- the D lines of product p in a journal of a series are the doses that the rules complete while p is set, in order
pub product-lines : (c : Controller) (es : List Event) (stamps : List Stamped) (ls : List Line) → Sound c → JournalOf c es stamps ls → (p : ℕ)
    → (asked_lines (One p) ls ≡ map line_for (asked_stamps (One p) stamps)) × (map dose_of (asked_stamps (One p) stamps) ≡ records_while p c es)
product-lines c es stamps ls s j p = (
  doses-asked (One p) ls ∙ ap (asked_lines (One p)) j.doses ∙ stamped-asked (One p) stamps,
  asked-records (One p) stamps ∙ ap (asked_of (One p)) j.whole ∙ doses-of-product es c p s,
)

-- from any sound controller: no hour of a journal of a series lies in a hole, where every accepted restart from the first record on hands back the counters as they were; those before it may bring any numbers
pub journal-no-hole : (before es : List Event) (c : Controller) (stamps : List Stamped) (ls : List Line) → Sound c → records c before ≡ [] → hands_back (run c before) es ≡ true
    → JournalOf c (before ++ es) stamps ls → (h : ℕ) → in_hole h ls ≡ false
journal-no-hole before es c stamps ls s none back j h =
    follow-no-hole h ls (ap all_follow (line-counts c (before ++ es) stamps ls j) ∙ records-follow before es c s none back)

-- so each hour of it is as its H and the doses completed in it say
pub hour-kept : (before es : List Event) (c : Controller) (stamps : List Stamped) (ls : List Line) → Sound c → records c before ≡ [] → hands_back (run c before) es ≡ true
    → JournalOf c (before ++ es) stamps ls → (w : Products) (h : ℕ) → ask_of w (journal_text New ls) h ≡ done (hour_with false (has_on h ls) (asked_of w (completed_in h stamps)))
hour-kept before es c stamps ls s none back j w h =
    hour-answer c (before ++ es) stamps ls j s w h
    ∙ ap (λ (b : Bool). done (hour_with b (has_on h ls) (asked_of w (completed_in h stamps)))) (journal-no-hole before es c stamps ls s none back j h)
