-- What the doses of a series become: a journal whose D lines carry them is read back as exactly those doses, each hour's answer is of the doses completed in it, and the box leaves no hole in it. The walk over a series stands in proofs/Lines. Assumes nothing.
use Rattle.std.specs.Prelude.{◌≡◌, refl, Bool, true, false, ◌&&◌, ℕ, ◌≤◌, eqb, length}
use Rattle.std.proofs.Common.{sym, ◌∙◌, arith}
use Rattle.std.proofs.Math.Path.{ap, ap₂}
use mathlib.Core.List.{List, [], ◌∷◌, ◌++◌, map, map-append}
use Rattle.laws.specs.Pick.{pick, pick-map}
use Rattle.journal.specs.declared.Form.TheVariants.{New}
use Rattle.journal.specs.declared.Line.{Line}
use Rattle.journal.specs.declared.Line.TheVariants.{Dose, On}
use Rattle.journal.specs.Line.{in_range, product_most}
use Rattle.journal.specs.LineLaws.{dose-inside, hour-inside}
use Rattle.journal.specs.Journal.{hour_in, journal_text}
use Rattle.journal.specs.JournalLaws.{Each}
use Rattle.journal.specs.Order.{Ordered}
use Rattle.holes.specs.HoleLaws.{counts_in}
use Rattle.hourly.specs.declared.Products.{Products}
use Rattle.hourly.specs.Hours.{HourAnswer, missing, asks_for, dose_at, amounts_at, measured_or_idle}
use Rattle.counters.specs.declared.Record.{Record}
use Rattle.controller.specs.declared.Controller.{Controller}
use Rattle.counters.specs.Laws.{Recordable, AllRecordable}
use Rattle.series.specs.Events.{Event, records}
use Rattle.series.specs.Products.{asked_of, asked-append}
use Rattle.series.specs.Holes.{counts_of}

-- ---- a journal of a series

-- a dose record, and the hour in which the dose completed
pub record Stamped : Type 0 where
  pub hour : ℕ
  pub dose : Record

abbrev pub dose_of : Stamped → Record
dose_of s = s.dose

-- `D` hour, count, amount, settled: 1 if Settle ended stable else 0; and the product as a last field
unfoldable pub line_for : Stamped → Line
line_for s = Dose s.hour s.dose.count s.dose.amount s.dose.settled s.dose.product

unfoldable pub dose_lines : List Line → List Line
dose_lines [] = []
dose_lines (Dose h c a s p ∷ ls) = Dose h c a s p ∷ dose_lines ls
dose_lines (On h ∷ ls) = dose_lines ls

-- lines in order, within a journal's hours and bytes, whose D lines carry the records of a series from c in order; H lines stand anywhere; its text is of the new form
pub record JournalOf (c : Controller) (es : List Event) (stamps : List Stamped) (ls : List Line) : Type 0 where
  pub whole : map dose_of stamps ≡ records c es
  pub doses : dose_lines ls ≡ map line_for stamps
  pub order : Ordered ls
  pub hours : Each (λ l. hour_in l ≤ 9999999) ls
  pub size : length (journal_text New ls) ≤ 65536

-- ---- it is read as exactly its lines

stamped-range : (s : Stamped) → s.hour ≤ 9999999 → Recordable s.dose → in_range New (line_for s) ≡ true
unfolding line_for product_most
stamped-range s h r = dose-inside New s.hour s.dose.count s.dose.amount s.dose.settled s.dose.product h r.count r.amount r.settled r.product

pub lines-range : (ls : List Line) (stamps : List Stamped) → dose_lines ls ≡ map line_for stamps → AllRecordable (map dose_of stamps) → Each (λ l. hour_in l ≤ 9999999) ls → Each (λ l. in_range New l ≡ true) ls
unfolding dose_lines hour_in line_for
lines-range [] stamps e r h = tt
lines-range (On x ∷ ls) stamps e r h = (hour-inside New x h.0, lines-range ls stamps e r h.1)
lines-range (Dose x c a s p ∷ ls) [] e r h = let z : ◌≡◌ {A = ℕ} 0 1 = cc in let f : ⊥ = omega arith in absurd f
lines-range (Dose x c a s p ∷ ls) (t ∷ ts) e r h =
    let same : Dose x c a s p ≡ line_for t = cc in
    let hour : x ≡ t.hour = ap hour_in same in
    (rw same (stamped-range t (omega arith) r.0), lines-range ls ts (cc) r.1 h.1)

-- ---- each hour's doses

-- the records of the doses completed in hour h
unfoldable pub completed_in : ℕ → List Stamped → List Record
completed_in h [] = []
completed_in h (s ∷ more) = pick (eqb s.hour h) (s.dose ∷ []) [] ++ completed_in h more

abbrev pub amounts_of : List Record → List ℕ
amounts_of rs = map (λ r. r.amount) rs

pub doses-amounts : (w : Products) (h : ℕ) (ls : List Line) → amounts_at w h ls ≡ amounts_at w h (dose_lines ls)
unfolding amounts_at dose_at dose_lines
doses-amounts w h [] = refl
doses-amounts w h (Dose x c a s p ∷ ls) = ap (λ (l : List ℕ). pick (asks_for w p && eqb x h) (a ∷ []) [] ++ l) (doses-amounts w h ls)
doses-amounts w h (On x ∷ ls) = doses-amounts w h ls

-- a dose counts in its hour where its product is asked for
one-amount : (w : Products) (r : Record) (here : Bool) → pick (asks_for w r.product && here) (r.amount ∷ []) [] ≡ amounts_of (asked_of w (pick here (r ∷ []) []))
unfolding asked_of pick
one-amount w r true = go (asks_for w r.product)
  where
    go : (b : Bool) → pick (b && true) (r.amount ∷ []) [] ≡ amounts_of (pick b (r ∷ []) [] ++ [])
    go true = refl
    go false = refl
one-amount w r false = go (asks_for w r.product)
  where
    go : (b : Bool) → pick (b && false) (r.amount ∷ []) [] ≡ []
    go true = refl
    go false = refl

pub stamped-amounts : (w : Products) (h : ℕ) (stamps : List Stamped) → amounts_at w h (map line_for stamps) ≡ amounts_of (asked_of w (completed_in h stamps))
unfolding amounts_at dose_at line_for completed_in asked_of
stamped-amounts w h [] = refl
stamped-amounts w h (s ∷ more) =
    let here = pick (eqb s.hour h) (s.dose ∷ []) [] in
    ap₂ (λ (a b : List ℕ). a ++ b) (one-amount w s.dose (eqb s.hour h)) (stamped-amounts w h more)
    ∙ sym (map-append (λ (r : Record). r.amount) (asked_of w here) (asked_of w (completed_in h more)))
    ∙ ap amounts_of (sym (asked-append w here (completed_in h more)))

-- its counts

pub doses-counts : (ls : List Line) → counts_in ls ≡ counts_in (dose_lines ls)
unfolding counts_in dose_lines
doses-counts [] = refl
doses-counts (Dose x c a s p ∷ ls) = ap (λ (l : List ℕ). c ∷ l) (doses-counts ls)
doses-counts (On x ∷ ls) = doses-counts ls

pub stamped-counts : (stamps : List Stamped) → counts_in (map line_for stamps) ≡ counts_of (map dose_of stamps)
unfolding counts_in line_for
stamped-counts [] = refl
stamped-counts (s ∷ more) = ap (λ (l : List ℕ). s.dose.count ∷ l) (stamped-counts more)

-- an hour by whether it lies in a hole and whether it has an H, and by the doses completed in it
unfoldable pub hour_with : Bool → Bool → List Record → HourAnswer
hour_with hole on rs = pick hole missing (pick on (measured_or_idle (amounts_of rs)) missing)

-- ---- the lines of one product

-- the D lines of the products that are asked for
unfoldable pub asked_lines : Products → List Line → List Line
asked_lines w [] = []
asked_lines w (Dose h c a s p ∷ ls) = pick (asks_for w p) (Dose h c a s p ∷ []) [] ++ asked_lines w ls
asked_lines w (On h ∷ ls) = asked_lines w ls

unfoldable pub asked_stamps : Products → List Stamped → List Stamped
asked_stamps w [] = []
asked_stamps w (s ∷ more) = pick (asks_for w s.dose.product) (s ∷ []) [] ++ asked_stamps w more

pub doses-asked : (w : Products) (ls : List Line) → asked_lines w ls ≡ asked_lines w (dose_lines ls)
unfolding asked_lines dose_lines
doses-asked w [] = refl
doses-asked w (Dose x c a s p ∷ ls) = ap (λ (l : List Line). pick (asks_for w p) (Dose x c a s p ∷ []) [] ++ l) (doses-asked w ls)
doses-asked w (On x ∷ ls) = doses-asked w ls

pub stamped-asked : (w : Products) (stamps : List Stamped) → asked_lines w (map line_for stamps) ≡ map line_for (asked_stamps w stamps)
unfolding asked_lines asked_stamps line_for
stamped-asked w [] = refl
stamped-asked w (s ∷ more) =
    ap₂ (λ (a b : List Line). a ++ b) (sym (pick-map (map line_for) (asks_for w s.dose.product) (s ∷ []) [])) (stamped-asked w more)
    ∙ sym (map-append line_for (pick (asks_for w s.dose.product) (s ∷ []) []) (asked_stamps w more))

pub asked-records : (w : Products) (stamps : List Stamped) → map dose_of (asked_stamps w stamps) ≡ asked_of w (map dose_of stamps)
unfolding asked_stamps asked_of
asked-records w [] = refl
asked-records w (s ∷ more) =
    map-append dose_of (pick (asks_for w s.dose.product) (s ∷ []) []) (asked_stamps w more)
    ∙ ap₂ (λ (a b : List Record). a ++ b) (pick-map (map dose_of) (asks_for w s.dose.product) (s ∷ []) []) (asked-records w more)
