-- What every line keeps: a clock within its bounds, and lines that can be written. Assumes nothing.
use Rattle.std.specs.Prelude.{◌≡◌, refl, true, false, List, [], ◌∷◌, ℕ, ◌+◌, ◌≤◌, eqb, ltb, length}
use Rattle.std.proofs.Common.{sym, ◌∙◌, arith, ltb-false, le-leb}
use Rattle.std.proofs.lemmas.Bool.{eqb-false}
use Rattle.laws.specs.Pick.{pick-t, pick-if}
use Rattle.laws.specs.Decimal.{Parsed, good, bad, number_at}
use Rattle.laws.specs.DecimalLaws.{number-only}
use Rattle.journal.specs.Line.{in_range, product_most}
use Rattle.journal.specs.LineLaws.{dose-range, dose-inside, hour-inside}
use Rattle.journal.specs.declared.Form.TheVariants.{New}
use Rattle.journal.specs.declared.Line.{Line}
use Rattle.journal.specs.declared.Line.TheVariants.{On}
use Rattle.counters.specs.declared.Record.{Record}
use Rattle.counters.specs.Laws.{Recordable}
use Rattle.clock.specs.Clock.{ticks_an_hour, greatest_hour, start_of, Note, note, with_stage, with_hour, with_ticks, with_whole, with_known, refuse, first_of, dose_in, next_hour, one_more, counts, restarted_by, lost_by, heard_by, passed_by, Runs}
use Rattle.clock.specs.Marking.{Writes, writes_as, roomed, fits_line, Writable, fitted, Does}
use Rattle.clock.specs.declared.Heard.{Heard}
use Rattle.clock.specs.declared.Heard.TheVariants.{Ticked, Dosed, Restarted, Lost, Other}
use Rattle.clock.specs.declared.Clock.{Clock}
use Rattle.clock.specs.declared.Marked.{Marked}

-- ---- lines in range

pub on-in-range : (h : ℕ) → h ≤ greatest_hour → in_range New (On h) ≡ true
on-in-range h m = hour-inside New h m

-- a dose that can be written in hour 0 can be written in every hour
pub dose-in-range : (h : ℕ) (d : Record) → h ≤ greatest_hour → Writable (Dosed d) → in_range New (dose_in h d) ≡ true
unfolding fits_line dose_in
dose-in-range h d m w =
    let r = dose-range New 0 d.count d.amount d.settled d.product w in
    dose-inside New h d.count d.amount d.settled d.product m r.1 r.2 r.3 r.4

-- and the record of a dose that is told of can be
pub recordable-writable : (d : Record) → Recordable d → Writable (Dosed d)
unfolding fits_line dose_in product_most
recordable-writable d k = dose-inside New 0 d.count d.amount d.settled d.product (omega arith) k.count k.amount k.settled k.product

-- ---- the clock

pub start-runs : Runs start_of
unfolding start_of
start-runs = record { ticks = omega arith; hour = omega arith }

refuse-runs : (n : ℕ) (k : Clock) → Runs k → Runs (refuse n k).next
unfolding refuse with_stage
refuse-runs n k s = record { ticks = s.ticks; hour = s.hour }

-- one tick more of an hour, and the hour that follows
pub ticks-runs : (k : Clock) → Runs k → eqb (k.ticks + 1) ticks_an_hour ≡ false → Runs (with_ticks (k.ticks + 1) k)
unfolding with_ticks
ticks-runs k s e = let d = eqb-false (k.ticks + 1) ticks_an_hour e in record { ticks = omega (arith, s.ticks, d); hour = s.hour }

pub next-runs : (k : Clock) → k.hour ≤ greatest_hour → Runs (next_hour k)
unfolding next_hour with_whole with_ticks with_hour
next-runs k h = record { ticks = omega arith; hour = omega arith }

counts-runs : (k : Clock) (doses : List Line) → Runs k → Runs (counts k doses).next
unfolding counts one_more
counts-runs k doses s =
    pick-if (λ (n : Note). Runs n.next) (ltb greatest_hour k.hour)
    (λ e. refuse-runs 0 k s)
    (λ e. pick-if (λ (n : Note). Runs n.next) (eqb (k.ticks + 1) ticks_an_hour) (λ f. next-runs k (ltb-false greatest_hour k.hour e)) (λ f. ticks-runs k s f))

pub passed-runs : (k : Clock) (h : Heard) → Runs k → Runs (passed_by k h)
unfolding passed_by restarted_by lost_by with_known with_whole
passed-runs k Ticked s = s
passed-runs k (Dosed d) s = s
passed-runs k Restarted s = record { ticks = s.ticks; hour = s.hour }
passed-runs k Lost s = record { ticks = s.ticks; hour = s.hour }
passed-runs k Other s = s

pub heard-runs : (k : Clock) (h : Heard) → Runs k → Runs (heard_by k h).next
unfolding heard_by passed_by
heard-runs k Ticked s = counts-runs k _ s
heard-runs k (Dosed d) s = counts-runs k _ s
heard-runs k Restarted s = passed-runs k Restarted s
heard-runs k Lost s = passed-runs k Lost s
heard-runs k Other s = s

-- the first line is a number of at most 9,999,999 or none
pub first_runs : (k : Clock) (l : List ℕ) → Runs k → Runs (first_of k (number_at greatest_hour l)).next
unfolding first_of with_stage with_hour
first_runs k l s = go (number_at greatest_hour l) refl
  where
    go : (p : Parsed ℕ) → number_at greatest_hour l ≡ p → Runs (first_of k p).next
    go (good h []) e = record { ticks = s.ticks; hour = omega (arith, (number-only greatest_hour l h [] e).1) }
    go (good h (b ∷ bs)) e = refuse-runs 1 k s
    go bad e = refuse-runs 1 k s

-- ---- with room for a line

pub roomed-is : (room : ℕ) (k : Clock) (n : Note) → 64 ≤ room → roomed room k n ≡ n
unfolding roomed
roomed-is room k n h = pick-t _ _ _ (le-leb 64 room h)

-- and with a dose that can be written, the call does what the line adds
pub fitted-is : (k : Clock) (h : Heard) → Writable h → fitted k h ≡ heard_by k h
unfolding fitted
fitted-is k h w = pick-t _ _ _ w

pub does-writes : {k : Clock} {n m : Note} {old new : List ℕ} {r : Marked} → 64 ≤ length old → n ≡ m → Does k n old new r → Writes m old new r
does-writes {k} {old = old} room e o = writes_as (sym (roomed-is (length old) k _ room ∙ e)) o.writes

-- ---- a line that is no counted tick

pub data Uncounted : Heard → Type 0 where
  restarted : Uncounted Restarted
  lost : Uncounted Lost
  other : Uncounted Other

-- adds nothing, and is heard as it passes
pub heard-passed : {h : Heard} (k : Clock) → Uncounted h → heard_by k h ≡ note (passed_by k h) []
unfolding heard_by passed_by
heard-passed k restarted = refl
heard-passed k lost = refl
heard-passed k other = refl
