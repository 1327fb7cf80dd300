-- The promise is not empty: for AL1, AL2 and AL3 a series from the fresh controller that completes two different doses. Assumes nothing.
use Rattle.std.specs.Prelude.{◌≡◌, refl, true, List, [], ◌∷◌, ◌++◌, map, ℕ, pos, replicate}
use Rattle.std.proofs.Common.{sym, ap, arith}
use Rattle.laws.specs.Pick.{pick}
use Rattle.laws.specs.Whole.{false-true}
use Rattle.laws.specs.Decimal.{decimal, digits_of, glyph}
use Rattle.journal.specs.declared.Line.{Line}
use Rattle.journal.specs.declared.Line.TheVariants.{Dose, On}
use Rattle.journal.specs.Line.{version_text, text_of, dose_fields, fields_text}
use Rattle.journal.specs.Journal.{hour_in, closes, first_hour, lines_text, head_text, journal_text}
use Rattle.journal.specs.Order.{Follows}
use Rattle.settings.specs.declared.Settings.{Settings}
use Rattle.settings.specs.Cases.{set_of}
use Rattle.counters.specs.declared.Record.{Record}
use Rattle.controller.specs.State.{fresh_of}
use Rattle.controller.specs.Restart.{restarted_from}
use Rattle.controller.specs.Outside.{w_at, clear, in_dose_settle, shuts3, leaves_settle, completes, begins, opens3, noted, amount_seen, doses_seen}
use Rattle.setup.specs.Cases.{orders}
use Rattle.series.specs.Events.{Event, tick, link, settings, restart, event_of, sight_of, given_by, counting_at, nothing_seen, counted_from, with_sight, seen_after, seen, handed_back, hands_back, records_in, records_at, records}
use Rattle.series.specs.Statement.{all_doses_after}
use Rattle.series.specs.Lines.{Stamped, dose_of, line_for, dose_lines, JournalOf}

-- to unfold this is to unfold what is seen of a series, and every rule of the box
unfoldable whole : Unit {0}
unfolding orders restarted_from event_of sight_of given_by counting_at nothing_seen counted_from with_sight seen_after seen handed_back hands_back records_in records_at records w_at clear in_dose_settle shuts3 leaves_settle completes begins opens3 noted amount_seen doses_seen
whole = tt

-- n ticks with the sample x and the inputs i
abbrev pub ticks : ℕ → ℕ → ℕ → List Event
ticks n x i = replicate n (tick (pos x) i)

-- a restart with an algorithm, its level M and the stored count and total; C 1,000, D 100, no leads, p7 and p8 4, p9 1; inputs 1 to 3 are 0 while the outputs are shut
abbrev begun : ℕ → ℕ → ℕ → ℕ → Event
begun algorithm level count total =
    restart (set_of (algorithm ∷ 1000 ∷ 100 ∷ 0 ∷ 0 ∷ level ∷ 4 ∷ 4 ∷ 1 ∷ 0 ∷ 0 ∷ 1 ∷ 1 ∷ 1 ∷ 1 ∷ 0 ∷ 0 ∷ [])) count total

-- AL1: start, fill to 150, settle, discharge to 38; a restart that hands back the counters as they were; the same with 250, discharged to 0
abbrev pub two_of_al1 : List Event
two_of_al1 = begun 1 50 0 0 ∷ ticks 1 0 8 ++ ticks 68 150 0 ++ ticks 3 38 0 ++ begun 1 50 1 112 ∷ ticks 1 0 8 ++ ticks 68 250 0 ++ ticks 3 0 0

-- AL2: load to 500, calm; start, dose to 300, settle; start, dose to 150, settle
abbrev pub two_of_al2 : List Event
two_of_al2 = begun 2 200 0 0 ∷ ticks 1 0 0 ++ ticks 68 500 0 ++ ticks 1 500 8 ++ ticks 68 300 0 ++ ticks 1 300 8 ++ ticks 68 150 0

-- AL3: with the link start on, dose from 500 to 250 and to 150
abbrev pub two_of_al3 : List Event
two_of_al3 = begun 3 200 0 0 ∷ ticks 1 500 8 ++ link true ∷ ticks 1 500 0 ++ ticks 68 250 0 ++ ticks 1 250 0 ++ ticks 68 150 0

pub two-doses :
    (all_doses_after two_of_al1 ≡ 112 ∷ 250 ∷ [])
    × (all_doses_after two_of_al2 ≡ 200 ∷ 150 ∷ [])
    × (all_doses_after two_of_al3 ≡ 250 ∷ 100 ∷ [])
unfolding whole
two-doses = (refl, refl, refl)

-- their restarts hand back the counters as they were
pub two-handed-back : map (hands_back fresh_of) (two_of_al1 ∷ two_of_al2 ∷ two_of_al3 ∷ []) ≡ true ∷ true ∷ true ∷ []
unfolding whole
two-handed-back = refl

-- ---- two products from one hopper

-- AL2 with a product code
abbrev of_code : ℕ → Settings
of_code product = set_of (2 ∷ 1000 ∷ 100 ∷ 0 ∷ 0 ∷ 200 ∷ 4 ∷ 4 ∷ 1 ∷ 0 ∷ 0 ∷ 1 ∷ 1 ∷ 1 ∷ 1 ∷ 0 ∷ 0 ∷ product ∷ [])

-- product 1 is dosed from 500 to 300; in Ready product 2 is set, and dosed to 150
abbrev pub two_products : List Event
two_products = restart (of_code 1) 0 0 ∷ ticks 1 0 0 ++ ticks 68 500 0 ++ ticks 1 500 8 ++ ticks 68 300 0 ++ settings (of_code 2) ∷ ticks 1 300 8 ++ ticks 68 150 0

abbrev recorded : ℕ → ℕ → ℕ → Record
recorded count amount product = record { count = count; amount = amount; settled = 1; product = product }

-- each dose is told of with the product that was set, the counters go on
pub two_products_lem : records fresh_of two_products ≡ recorded 1 200 1 ∷ recorded 2 150 2 ∷ []
unfolding whole
two_products_lem = refl

-- ---- a journal of the first: both doses in hour 10, and the box on for all of it

abbrev stamp : Record → Stamped
stamp r = record { hour = 10; dose = r }

abbrev pub stamps_of_al1 : List Stamped
stamps_of_al1 = map stamp (records fresh_of two_of_al1)

stamped-whole : (rs : List Record) → map dose_of (map stamp rs) ≡ rs
stamped-whole [] = refl
stamped-whole (r ∷ rs) = ap (λ (l : List Record). r ∷ l) (stamped-whole rs)

lines-AL1 : map line_for stamps_of_al1 ≡ Dose 10 1 112 1 0 ∷ Dose 10 2 250 1 0 ∷ []
unfolding whole line_for
lines-AL1 = refl

-- a line after a D of its hour
after-dose : (h c a s p : ℕ) (l : Line) → hour_in l ≡ h → Follows (Dose h c a s p) l
unfolding hour_in closes
after-dose h c a s p l e = record { onward = omega arith; beyond = λ k. false-true k }

pub journal-AL1 : JournalOf fresh_of two_of_al1 stamps_of_al1 (Dose 10 1 112 1 0 ∷ Dose 10 2 250 1 0 ∷ On 10 ∷ [])
unfolding dose_lines hour_in closes first_hour journal_text head_text version_text lines_text text_of dose_fields fields_text decimal digits_of glyph pick
journal-AL1 =
    record {
      whole = stamped-whole (records fresh_of two_of_al1);
      doses = sym lines-AL1;
      order = record { steps = (after-dose 10 1 112 1 0 (Dose 10 2 250 1 0) refl, (after-dose 10 2 250 1 0 (On 10) refl, tt)); near = omega arith };
      hours = omega arith;
      size = omega arith;
    }
