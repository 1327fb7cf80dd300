-- What lines add to a journal, run on clocks. Assumes nothing.
use Rattle.std.specs.Prelude.{◌≡◌, refl, Bool, true, false, List, [], ◌∷◌, ℕ}
use Rattle.laws.specs.Pick.{pick}
use Rattle.laws.specs.Decimal.{number_at, digits_from, is_digit, decimal, digits_of, glyph}
use Rattle.journal.specs.Line.{version_text, text_of, dose_fields, fields_text}
use Rattle.journal.specs.Journal.{lines_text}
use Rattle.counters.specs.declared.Record.{Record}
use Rattle.clock.specs.Clock.{greatest_hour, Note, note, with_stage, with_hour, with_ticks, with_whole, with_known, refusal_text, refuse, first_of, dose_in, closing, next_hour, one_more, counts, restarted_by, lost_by, heard_by, start_of}
use Rattle.clock.specs.declared.Heard.TheVariants.{Ticked, Dosed, Restarted, Lost}
use Rattle.clock.specs.declared.Stage.TheVariants.{Recording, Over}
use Rattle.clock.specs.declared.Clock.{Clock}

-- to unfold this is to unfold every rule of a clock
unfoldable clocks : Unit {0}
unfolding start_of first_of refuse refusal_text heard_by counts one_more next_hour closing dose_in restarted_by lost_by with_stage with_hour with_ticks with_whole with_known version_text lines_text text_of dose_fields fields_text decimal digits_of glyph number_at digits_from is_digit pick
clocks = tt

-- recording
abbrev at : ℕ → ℕ → Bool → Bool → Clock
at h n w k = record { stage = Recording; hour = h; ticks = n; whole = w; known = k }

abbrev first : List ℕ → Note
first l = first_of start_of (number_at greatest_hour l)

-- the first line: the hour of the first tick, alone on its line, begins the journal with V 2; with a leading zero it is R10 with line 1
pub first-lines :
    (first (48 ∷ []) ≡ note (at 0 0 true true) (86 ∷ 9 ∷ 50 ∷ 10 ∷ []))
    × (first (48 ∷ 53 ∷ []) ≡ note (record { stage = Over; hour = 0; ticks = 0; whole = true; known = true }) (82 ∷ 9 ∷ 49 ∷ 48 ∷ 9 ∷ 49 ∷ 10 ∷ []))
unfolding clocks
first-lines = (refl, refl)

-- dose 8 of 480, not settled, of product 7
abbrev dose : Record
dose = record { count = 8; amount = 480; settled = 0; product = 7 }

-- the last tick of an hour writes its H, after its D, which has the hour of its tick; then the next hour begins
pub hours-closed :
    (heard_by (at 5 449998 true true) Ticked ≡ note (at 5 449999 true true) [])
    × (heard_by (at 5 449999 true true) Ticked ≡ note (at 6 0 true true) (72 ∷ 9 ∷ 53 ∷ 10 ∷ []))
    × (heard_by (at 5 449999 true true) (Dosed dose) ≡ note (at 6 0 true true) (68 ∷ 9 ∷ 53 ∷ 9 ∷ 56 ∷ 9 ∷ 52 ∷ 56 ∷ 48 ∷ 9 ∷ 48 ∷ 9 ∷ 55 ∷ 10 ∷ 72 ∷ 9 ∷ 53 ∷ 10 ∷ []))
unfolding clocks
hours-closed = (refl, refl, refl)

-- a line that is no call breaks its hour, and every later one until a restart is accepted; a restart before an hour's first tick leaves it whole, one after it does not
pub hours-broken :
    (heard_by (at 5 7 true true) Lost ≡ note (at 5 7 false false) [])
    × (heard_by (at 5 449999 false false) Ticked ≡ note (at 6 0 true false) [])
    × (heard_by (at 6 449999 true false) Ticked ≡ note (at 7 0 true false) [])
    × (heard_by (at 6 0 true false) Restarted ≡ note (at 6 0 true true) [])
    × (heard_by (at 6 1 true false) Restarted ≡ note (at 6 1 false true) [])
    × (heard_by (at 6 0 false false) Restarted ≡ note (at 6 0 false true) [])
unfolding clocks
hours-broken = (refl, refl, refl, refl, refl, refl)

-- hour 9,999,999 is written; the first tick above it is R10 with line 0, a restart there is not
pub hours-end :
    (heard_by (at 9999999 449999 true true) Ticked ≡ note (at 10000000 0 true true) (72 ∷ 9 ∷ 57 ∷ 57 ∷ 57 ∷ 57 ∷ 57 ∷ 57 ∷ 57 ∷ 10 ∷ []))
    × (heard_by (at 10000000 0 true true) (Dosed dose) ≡ note (record { stage = Over; hour = 10000000; ticks = 0; whole = true; known = true }) (82 ∷ 9 ∷ 49 ∷ 48 ∷ 9 ∷ 48 ∷ 10 ∷ []))
    × (heard_by (at 10000000 0 true true) Restarted ≡ note (at 10000000 0 true true) [])
unfolding clocks
hours-end = (refl, refl, refl)
