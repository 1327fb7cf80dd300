-- The hours of a recording, for the products that are asked for: an hour that lies in no hole of the dose numbers is measured exactly if it was seen in full and a dose of them completed in it, and then by those doses; one that lies in a hole is missing. Assumes nothing.
use Rattle.std.specs.Prelude.{◌≡◌, Bool, false, not, ◌&&◌, ◌||◌, ℕ, zero, suc, ◌+◌, ◌≤◌, ◌<◌, eqb, ltb, ℤ, length, drop, Option, Some, None}
use Rattle.std.proofs.Math.Path.{refl, ap, ap₂, subst}
use Rattle.std.proofs.Common.{sym, ◌∙◌, arith, eq-eqb, ne_eqb, eqb-true, ltb-false}
use Rattle.std.proofs.Math.Bool.{true}
use mathlib.Core.List.{List, [], ◌∷◌, ◌++◌, map, map-append, append_assoc, append-nil}
use Rattle.std.proofs.lemmas.Bool.{eqb-false}
use Rattle.laws.specs.Pick.{pick, pick-t, pick-f, pick_all, pick-if}
use Rattle.laws.specs.Decimal.{Parsed, good, bad, number_at}
use Rattle.laws.specs.DecimalLaws.{number-only}
use Rattle.paper.specs.Answer.{Answer, done, refused, fault}
use Rattle.text.specs.ScanLaws.{bad-good}
use Rattle.journal.specs.declared.Form.{Form}
use Rattle.journal.specs.declared.Form.TheVariants.{New}
use Rattle.journal.specs.declared.Line.{Line}
use Rattle.journal.specs.declared.Line.TheVariants.{Dose, On}
use Rattle.journal.specs.Line.{version_text, versioned, text_of, in_range, line_of}
use Rattle.journal.specs.LineLaws.{read-text}
use Rattle.journal.specs.Journal.{form_of, journal_of, lines_text, head_text, journal_text}
use Rattle.journal.specs.JournalLaws.{Each, journal-text, journal-range}
use Rattle.holes.specs.Holes.{in_hole}
use Rattle.holes.specs.HoleLaws.{counts_in, all_follow, follow-no-hole}
use Rattle.hourly.specs.declared.Products.{Products}
use Rattle.hourly.specs.declared.Products.TheVariants.{One}
use Rattle.hourly.specs.Hours.{HourAnswer, measured, idle, missing, asks_for, dose_at, amounts_at, is_on, has_on, sum_of, largest_of, mean_of, measured_or_idle, hour_of}
use Rattle.dosing.specs.declared.Dose as dosing
use Rattle.controller.specs.declared.Controller.{Controller}
use Rattle.controller.specs.declared.Fault.{Fault}
use Rattle.controller.specs.declared.Fault.TheVariants as F
use Rattle.controller.specs.Tick.{Result, Told, says_fault, faulted, step8, step7, tick_of}
use Rattle.controller.specs.Ways.{tick-ways}
use Rattle.counters.specs.declared.Counters.{Counters}
use Rattle.counters.specs.declared.Record.{Record}
use Rattle.counters.specs.Counters.{records_of}
use Rattle.counters.specs.Laws.{AllOf}
use Rattle.controller.specs.State.{fresh_of}
use Rattle.controller.specs.Sound.{Sound}
use Rattle.controller.specs.Keeps.{fresh-sound}
use Rattle.hourly.specs.Text.{row_from, row_of}
use Rattle.series.specs.Events.{Event, tick, link, request, modbus, settings, reset, restart, run, hands_back, records_in, records_at, records}
use Rattle.series.specs.Products.{asked_of, event-product}
use Rattle.series.specs.Holes.{counts_of}
use Rattle.series.proofs.Holes.{records-follow}
use Rattle.series.specs.Records.{records-append}
use Rattle.series.specs.Lines.{amounts_of, hour_with}
use Rattle.lines.specs.Lines.{lines_of}
use Rattle.calls.specs.Call.{Call, call_of}
use Rattle.calls.specs.Call as calls
use Rattle.calls.specs.declared.Order.{Order}
use Rattle.calls.specs.declared.Order.TheVariants as O
use Rattle.acts.specs.Acts.{blank, order_events, call_events, events_in, made_by, said_of, said_to}
use Rattle.clock.specs.Clock.{ticks_an_hour, greatest_hour, Note, note, with_stage, with_hour, with_ticks, with_whole, with_known, refusal_text, refuse, first_of, dose_in, closing, next_hour, one_more, counts, restarted_by, lost_by, heard_by, passed_by, Runs}
use Rattle.recorder.specs.Recording.{heard_doses, heard_tick, heard_restart, heard_said, heard_of, note_by, note_of, box_by, next_of, start_of, notes_of, record_of}
use Rattle.clock.specs.Clock as clock
use Rattle.clock.specs.Marking.{Writable}
use Rattle.clock.specs.Keeps.{on-in-range, dose-in-range, ticks-runs, next-runs, passed-runs}
use Rattle.recorder.specs.Keeps.{made-sound, heard-writable}
use Rattle.clock.specs.declared.Heard.{Heard}
use Rattle.clock.specs.declared.Heard.TheVariants.{Ticked, Dosed, Restarted, Lost, Other}
use Rattle.clock.specs.declared.Stage.{Stage}
use Rattle.clock.specs.declared.Stage.TheVariants.{Recording}
use Rattle.clock.specs.declared.Clock.{Clock}
use Rattle.recorder.specs.declared.Recorder.{Recorder}

-- ---- the lines of an hour

-- what each line of a script was, from a controller on
unfoldable pub heard_all : Controller → List (List ℕ) → List Heard
heard_all c [] = []
heard_all c (l ∷ ls) = heard_of c (call_of l) ∷ heard_all (made_by c (call_of l)) ls

-- how many ticks are left of n behind a line
unfoldable pub less : Heard → ℕ → ℕ
less Ticked n = n
less (Dosed d) n = n
less Restarted n = suc n
less Lost n = suc n
less Other n = suc n

-- the lines up to the n-th counted tick, and those behind it
unfoldable pub up_to : List Heard → ℕ → List Heard
up_to [] n = []
up_to (h ∷ hs) zero = []
up_to (h ∷ hs) (suc n) = h ∷ up_to hs (less h n)

unfoldable pub behind : List Heard → ℕ → List Heard
behind [] n = []
behind (h ∷ hs) zero = h ∷ hs
behind (h ∷ hs) (suc n) = behind hs (less h n)

-- 450,000 counted ticks are an hour, from the first tick on: the lines of the hour number k end with its last tick
unfoldable pub hour_lines : ℕ → List Heard → List Heard
hour_lines zero hs = up_to hs ticks_an_hour
hour_lines (suc k) hs = hour_lines k (behind hs ticks_an_hour)

-- and all that came before its last tick
unfoldable pub so_far : ℕ → List Heard → List Heard
so_far zero hs = up_to hs ticks_an_hour
so_far (suc k) hs = up_to hs ticks_an_hour ++ so_far k (behind hs ticks_an_hour)

-- ---- seen in full

unfoldable pub ticks_in : List Heard → ℕ
ticks_in [] = 0
ticks_in (Ticked ∷ hs) = suc (ticks_in hs)
ticks_in (Dosed d ∷ hs) = suc (ticks_in hs)
ticks_in (Restarted ∷ hs) = ticks_in hs
ticks_in (Lost ∷ hs) = ticks_in hs
ticks_in (Other ∷ hs) = ticks_in hs

-- no line that is no call, and no accepted restart once a tick has come
unfoldable pub unbroken : Bool → List Heard → Bool
unbroken begun [] = true
unbroken begun (Ticked ∷ hs) = unbroken true hs
unbroken begun (Dosed d ∷ hs) = unbroken true hs
unbroken begun (Restarted ∷ hs) = not begun && unbroken begun hs
unbroken begun (Lost ∷ hs) = false
unbroken begun (Other ∷ hs) = unbroken begun hs

-- a restart was accepted since the last line that was no call
unfoldable pub mended : Bool → List Heard → Bool
mended b [] = b
mended b (Ticked ∷ hs) = mended b hs
mended b (Dosed d ∷ hs) = mended b hs
mended b (Restarted ∷ hs) = mended true hs
mended b (Lost ∷ hs) = mended false hs
mended b (Other ∷ hs) = mended b hs

-- all ticks of the hour number k were counted, no line that is no call stands among them or unmended before them, and no accepted restart after the first of them
unfoldable pub seen_in_full : ℕ → List Heard → Bool
seen_in_full k hs = eqb (ticks_in (hour_lines k hs)) ticks_an_hour && (unbroken false (hour_lines k hs) && mended true (so_far k hs))

-- the dose records that the ticks of some lines answered, in order
unfoldable pub doses_in : List Heard → List Record
doses_in [] = []
doses_in (Ticked ∷ hs) = doses_in hs
doses_in (Dosed d ∷ hs) = d ∷ doses_in hs
doses_in (Restarted ∷ hs) = doses_in hs
doses_in (Lost ∷ hs) = doses_in hs
doses_in (Other ∷ hs) = doses_in hs

-- ---- these doses are the dose records of the series of calls that the lines make

-- the events of a script: a line makes one call of a series, or none
unfoldable pub events_of : List (List ℕ) → List Event
events_of [] = []
events_of (l ∷ ls) = events_in (call_of l) ++ events_of ls

-- a tick tells of one dose or of none
one-dose : (product : ℕ) (after : Counters) (d : Option dosing.Dose) → doses_in (heard_doses (records_of product after d) ∷ []) ≡ records_of product after d
unfolding doses_in heard_doses records_of
one-dose product after None = refl
one-dose product after (Some d) = refl

fault-none : (why : Fault) → doses_in (heard_tick (says_fault why) ∷ []) ≡ records_in (says_fault why)
unfolding doses_in heard_tick says_fault records_in
fault-none (F.F14 channel) = refl
fault-none F.F21 = refl

tick-doses : (c : Controller) (x : ℤ) (i : ℕ) → Sound c → doses_in (heard_tick (tick_of c x i).answer ∷ []) ≡ records_in (tick_of c x i).answer
unfolding doses_in heard_tick records_in faulted step7 step8
tick-doses c x i s =
    tick-ways (λ (r : Result Told). doses_in (heard_tick r.answer ∷ []) ≡ records_in r.answer)
    (λ why d sound. fault-none why)
    c x i s
    (λ a. refl)
    (λ why e. fault-none why)
    (λ d start r. one-dose _ _ _)

restart-none : (a : Answer (Unit {0})) → doses_in (heard_restart a ∷ []) ≡ []
unfolding doses_in heard_restart
restart-none (done x) = refl
restart-none (refused n vs) = refl
restart-none (fault n vs) = refl

order-doses : (c : Controller) (o : Order) → doses_in (heard_said (said_of c o) ∷ []) ≡ records c (order_events o)
unfolding doses_in heard_said said_of order_events records records_at
order-doses c (O.Link on) = refl
order-doses c (O.Settings set) = refl
order-doses c O.Reset = refl
order-doses c O.Counters = refl
order-doses c (O.Restart set count total) = restart-none _
order-doses c (O.Why k) = refl

line-doses : (c : Controller) (p : Parsed Call) → Sound c → doses_in (heard_of c p ∷ []) ≡ records c (events_in p)
unfolding heard_of doses_in heard_said said_to events_in call_events records records_at
line-doses c (good (calls.tick x i) rest) s = tick-doses c x i s ∙ sym (append-nil (records_in (tick_of c x i).answer))
line-doses c (good (calls.request b room) rest) s = refl
line-doses c (good (calls.modbus b room) rest) s = refl
line-doses c (good (calls.order o) rest) s = order-doses c o
line-doses c (good (calls.item i) rest) s = refl
line-doses c (good (calls.bytes u b n) rest) s = refl
line-doses c bad s = refl

doses-cons : (h : Heard) (hs : List Heard) → doses_in (h ∷ hs) ≡ doses_in (h ∷ []) ++ doses_in hs
unfolding doses_in
doses-cons Ticked hs = refl
doses-cons (Dosed d) hs = refl
doses-cons Restarted hs = refl
doses-cons Lost hs = refl
doses-cons Other hs = refl

pub doses-are : (script : List (List ℕ)) (c : Controller) → Sound c → doses_in (heard_all c script) ≡ records c (events_of script)
unfolding heard_all events_of doses_in records made_by
doses-are [] c s = refl
doses-are (l ∷ script) c s =
    let p = call_of l in
    doses-cons (heard_of c p) (heard_all (made_by c p) script)
    ∙ ap₂ (λ (a b : List Record). a ++ b) (line-doses c p s) (doses-are script (made_by c p) (made-sound c p s))
    ∙ sym (records-append (events_in p) (events_of script) c)

-- ---- the doses of one product are those completed while it was set

-- a dose where product p is set at its tick, else the tick alone
unfoldable pub while_set : ℕ → Controller → Heard → Heard
while_set p c Ticked = Ticked
while_set p c (Dosed d) = pick (eqb c.set.product p) (Dosed d) Ticked
while_set p c Restarted = Restarted
while_set p c Lost = Lost
while_set p c Other = Other

-- what each line of a script was, with the doses alone that are completed while product p is set
unfoldable pub heard_while : ℕ → Controller → List (List ℕ) → List Heard
heard_while p c [] = []
heard_while p c (l ∷ ls) = while_set p c (heard_of c (call_of l)) ∷ heard_while p (made_by c (call_of l)) ls

-- with the doses of product p alone
unfoldable only_of : ℕ → Heard → Heard
only_of p Ticked = Ticked
only_of p (Dosed d) = pick (eqb d.product p) (Dosed d) Ticked
only_of p Restarted = Restarted
only_of p Lost = Lost
only_of p Other = Other

event-only : (c : Controller) (e : Event) → Sound c → AllOf c.set.product (records c (e ∷ []))
unfolding records
event-only c e s = rw append-nil (event-product c e s)

order-product : (c : Controller) (o : Order) → Sound c → AllOf c.set.product (records c (order_events o))
unfolding order_events records AllOf
order-product c (O.Link on) s = event-only c (link on) s
order-product c (O.Settings set) s = event-only c (settings set) s
order-product c O.Reset s = event-only c reset s
order-product c O.Counters s = tt
order-product c (O.Restart set count total) s = event-only c (restart set count total) s
order-product c (O.Why k) s = tt

line-product : (c : Controller) (p : Parsed Call) → Sound c → AllOf c.set.product (records c (events_in p))
unfolding events_in call_events records AllOf
line-product c (good (calls.tick x i) rest) s = event-only c (tick x i) s
line-product c (good (calls.request b room) rest) s = event-only c (request b (blank room)) s
line-product c (good (calls.modbus b room) rest) s = event-only c (modbus b (blank room)) s
line-product c (good (calls.order o) rest) s = order-product c o s
line-product c (good (calls.item i) rest) s = tt
line-product c (good (calls.bytes u b n) rest) s = tt
line-product c bad s = tt

set-only : (p : ℕ) (c : Controller) (h : Heard) → AllOf c.set.product (doses_in (h ∷ [])) → while_set p c h ≡ only_of p h
unfolding while_set only_of doses_in AllOf
set-only p c Ticked a = refl
set-only p c (Dosed d) a = ap (λ (q : ℕ). pick (eqb q p) (Dosed d) Ticked) (sym a.0)
set-only p c Restarted a = refl
set-only p c Lost a = refl
set-only p c Other a = refl

while-only : (script : List (List ℕ)) (p : ℕ) (c : Controller) → Sound c → heard_while p c script ≡ map (only_of p) (heard_all c script)
unfolding heard_while heard_all
while-only [] p c s = refl
while-only (l ∷ script) p c s =
    let call = call_of l in
    ap₂ (λ (h : Heard) (hs : List Heard). h ∷ hs)
    (set-only p c (heard_of c call) (subst (AllOf c.set.product) (sym (line-doses c call s)) (line-product c call s)))
    (while-only script p (made_by c call) (made-sound c call s))

less-only : (p : ℕ) (h : Heard) (n : ℕ) → less (only_of p h) n ≡ less h n
unfolding only_of less
less-only p Ticked n = refl
less-only p (Dosed d) n = pick_all (λ (h : Heard). less h n ≡ n) (eqb d.product p) refl refl
less-only p Restarted n = refl
less-only p Lost n = refl
less-only p Other n = refl

up-only : (p : ℕ) (hs : List Heard) (n : ℕ) → up_to (map (only_of p) hs) n ≡ map (only_of p) (up_to hs n)
unfolding up_to
up-only p [] n = refl
up-only p (h ∷ hs) zero = refl
up-only p (h ∷ hs) (suc n) =
    ap (λ (l : List Heard). only_of p h ∷ l) (ap (up_to (map (only_of p) hs)) (less-only p h n) ∙ up-only p hs (less h n))

behind-only : (p : ℕ) (hs : List Heard) (n : ℕ) → behind (map (only_of p) hs) n ≡ map (only_of p) (behind hs n)
unfolding behind
behind-only p [] n = refl
behind-only p (h ∷ hs) zero = refl
behind-only p (h ∷ hs) (suc n) = ap (behind (map (only_of p) hs)) (less-only p h n) ∙ behind-only p hs (less h n)

hours-only : (k p : ℕ) (hs : List Heard) → hour_lines k (map (only_of p) hs) ≡ map (only_of p) (hour_lines k hs)
unfolding hour_lines
hours-only zero p hs = up-only p hs ticks_an_hour
hours-only (suc k) p hs = ap (hour_lines k) (behind-only p hs ticks_an_hour) ∙ hours-only k p (behind hs ticks_an_hour)

only-doses : (p : ℕ) (hs : List Heard) → doses_in (map (only_of p) hs) ≡ asked_of (One p) (doses_in hs)
unfolding doses_in only_of asked_of asks_for pick
only-doses p [] = refl
only-doses p (Ticked ∷ hs) = only-doses p hs
only-doses p (Dosed d ∷ hs) = go (eqb d.product p) ∙ ap (λ (l : List Record). pick (eqb d.product p) (d ∷ []) [] ++ l) (only-doses p hs)
  where
    go : (b : Bool) → doses_in (pick b (Dosed d) Ticked ∷ map (only_of p) hs) ≡ pick b (d ∷ []) [] ++ doses_in (map (only_of p) hs)
    go true = refl
    go false = refl
only-doses p (Restarted ∷ hs) = only-doses p hs
only-doses p (Lost ∷ hs) = only-doses p hs
only-doses p (Other ∷ hs) = only-doses p hs

-- the doses of product p in an hour are those that its ticks complete while p is set
pub hour-product : (script : List (List ℕ)) (c : Controller) (p k : ℕ) → Sound c → asked_of (One p) (doses_in (hour_lines k (heard_all c script))) ≡ doses_in (hour_lines k (heard_while p c script))
hour-product script c p k s =
    sym (only-doses p (hour_lines k (heard_all c script)))
    ∙ ap doses_in (sym (hours-only k p (heard_all c script)))
    ∙ ap (λ (hs : List Heard). doses_in (hour_lines k hs)) (sym (while-only script p c s))

-- ---- the journal's lines, where none is refused

unfoldable tick_lines : Clock → List Line → List Line
tick_lines k ds = pick (eqb (k.ticks + 1) ticks_an_hour) (ds ++ closing k) ds

unfoldable lines_by : Clock → List Heard → List Line
lines_by k [] = []
lines_by k (Ticked ∷ hs) = tick_lines k [] ++ lines_by (one_more k []).next hs
lines_by k (Dosed d ∷ hs) = tick_lines k (dose_in k.hour d ∷ []) ++ lines_by (one_more k []).next hs
lines_by k (Restarted ∷ hs) = lines_by (restarted_by k) hs
lines_by k (Lost ∷ hs) = lines_by (lost_by k) hs
lines_by k (Other ∷ hs) = lines_by k hs

-- a clock at an hour's start
abbrev opens : ℕ → Bool → Clock
opens h n = record { stage = Recording; hour = h; ticks = 0; whole = true; known = n }

-- ---- one hour

-- the D lines of an hour, its H, and then the lines of those that follow
hourly : ℕ → List Record → Bool → List Line → List Line
hourly h ds on rest = map (dose_in h) ds ++ (pick on (On h ∷ []) [] ++ rest)

and-false : (b : Bool) → (b && false) ≡ false
and-false true = refl
and-false false = refl

and_assoc : (a b c : Bool) → ((a && b) && c) ≡ (a && (b && c))
and_assoc true b c = refl
and_assoc false b c = refl

-- a tick that is not the hour's last, and one that is
tick-more : (k : Clock) (ds : List Line) → (k.ticks + 1 ≡ ticks_an_hour → ⊥) → (tick_lines k ds ≡ ds) × ((one_more k []).next ≡ with_ticks (k.ticks + 1) k)
unfolding tick_lines one_more
tick-more k ds h =
    let e = ne_eqb (k.ticks + 1) ticks_an_hour h in
    (pick-f _ _ _ e, ap (λ (n : Note). n.next) (pick-f _ _ _ e))

tick-last : (k : Clock) (ds : List Line) → k.ticks + 1 ≡ ticks_an_hour → (tick_lines k ds ≡ ds ++ closing k) × ((one_more k []).next ≡ next_hour k)
unfolding tick_lines one_more
tick-last k ds h =
    let e = eq-eqb (k.ticks + 1) ticks_an_hour h in
    (pick-t _ _ _ e, ap (λ (n : Note). n.next) (pick-t _ _ _ e))

and-true : (b : Bool) → (b && true) ≡ b
and-true true = refl
and-true false = refl

eqb-suc : (a b : ℕ) → eqb (suc a) (suc b) ≡ eqb a b
eqb-suc a b = go (eqb a b) refl
  where
    go : (t : Bool) → eqb a b ≡ t → eqb (suc a) (suc b) ≡ t
    go true e = eq-eqb (suc a) (suc b) (ap suc (eqb-true a b e))
    go false e = ne_eqb (suc a) (suc b) (λ z. eqb-false a b e (omega (arith, z)))

-- what an hour's lines are, whose first ticks have come
abbrev Hour-is : Clock → ℕ → Bool → List Heard → List Line → Type 0
Hour-is k m begun hs ls =
    ls
    ≡ hourly k.hour (doses_in (up_to hs m))
    (eqb (ticks_in (up_to hs m)) m && ((k.whole && unbroken begun (up_to hs m)) && mended k.known (up_to hs m)))
    (lines_by (opens (k.hour + 1) (mended k.known (up_to hs m))) (behind hs m))

-- the next hour's start
opens-next : (k : Clock) → k.stage ≡ Recording → next_hour k ≡ opens (k.hour + 1) k.known
unfolding next_hour with_whole with_ticks with_hour
opens-next k s = ap (λ (t : Stage). record { stage = t; hour = k.hour + 1; ticks = 0; whole = true; known = k.known }) s

none-up : (hs : List Heard) → up_to hs zero ≡ []
unfolding up_to
none-up [] = refl
none-up (h ∷ hs) = refl

all-behind : (hs : List Heard) → behind hs zero ≡ hs
unfolding behind
all-behind [] = refl
all-behind (h ∷ hs) = refl

last-is : (k : Clock) (begun : Bool) (hs : List Heard) → k.stage ≡ Recording → k.ticks + 1 ≡ ticks_an_hour → Hour-is k 1 begun (Ticked ∷ hs) (closing k ++ lines_by (next_hour k) hs)
unfolding hourly closing up_to behind less ticks_in unbroken mended doses_in
last-is k begun hs s t =
    rw (none-up hs, all-behind hs)
    (ap₂ (λ (on : Bool) (next : Clock). pick on (On k.hour ∷ []) [] ++ lines_by next hs)
    (sym (ap₂ (λ (a b : Bool). a && (b && k.known)) (eq-eqb 1 1 refl) (and-true k.whole)))
    (opens-next k s))

one-tick : (k : Clock) (begun : Bool) (d : List Heard) (m : ℕ) (rest : List Line)
    → hourly k.hour (doses_in d) (eqb (ticks_in d) (suc m) && ((k.whole && unbroken begun d) && mended k.known d)) rest
    ≡ hourly k.hour (doses_in d) (eqb (suc (ticks_in d)) (suc (suc m)) && ((k.whole && unbroken begun d) && mended k.known d)) rest
one-tick k begun d m rest = ap (λ (x : Bool). hourly k.hour (doses_in d) (x && ((k.whole && unbroken begun d) && mended k.known d)) rest) (sym (eqb-suc (ticks_in d) (suc m)))

first-hour : (hs : List Heard) (k : Clock) (m : ℕ) (begun : Bool) → k.stage ≡ Recording → k.ticks + suc m ≡ ticks_an_hour → eqb k.ticks 0 ≡ not begun → Hour-is k (suc m) begun hs (lines_by k hs)
unfolding hourly lines_by up_to behind less ticks_in unbroken mended doses_in restarted_by lost_by with_known with_whole with_ticks
first-hour [] k m begun s t b =
    let none : (eqb 0 (suc m) && ((k.whole && true) && k.known)) ≡ false = ap (λ (x : Bool). x && ((k.whole && true) && k.known)) (ne_eqb 0 (suc m) (λ z. absurd (omega (arith, z)))) in
    ap (λ (x : List Line). x ++ []) (sym (pick-f _ (On k.hour ∷ []) [] none))
first-hour (Ticked ∷ hs) k zero begun s t b =
    let l = tick-last k [] t in
    ap₂ (λ (x : List Line) (next : Clock). x ++ lines_by next hs) l.0 l.1 ∙ last-is k begun hs s t
first-hour (Dosed d ∷ hs) k zero begun s t b =
    let l = tick-last k (dose_in k.hour d ∷ []) t in
    ap₂ (λ (x : List Line) (next : Clock). x ++ lines_by next hs) l.0 l.1 ∙ ap (λ (x : List Line). dose_in k.hour d ∷ x) (last-is k begun hs s t)
first-hour (Ticked ∷ hs) k (suc m) begun s t b =
    let l = tick-more k [] (λ z. absurd (omega (arith, z, t))) in
    ap₂ (λ (x : List Line) (next : Clock). x ++ lines_by next hs) l.0 l.1
    ∙ first-hour hs (with_ticks (k.ticks + 1) k) m true s (omega (arith, t)) (ne_eqb (k.ticks + 1) 0 (λ z. absurd (omega (arith, z))))
    ∙ one-tick k true (up_to hs (suc m)) m (lines_by (opens (k.hour + 1) (mended k.known (up_to hs (suc m)))) (behind hs (suc m)))
first-hour (Dosed d ∷ hs) k (suc m) begun s t b =
    let l = tick-more k (dose_in k.hour d ∷ []) (λ z. absurd (omega (arith, z, t))) in
    ap₂ (λ (x : List Line) (next : Clock). x ++ lines_by next hs) l.0 l.1
    ∙ ap (λ (x : List Line). dose_in k.hour d ∷ x)
    (first-hour hs (with_ticks (k.ticks + 1) k) m true s (omega (arith, t)) (ne_eqb (k.ticks + 1) 0 (λ z. absurd (omega (arith, z)))) ∙ one-tick k true (up_to hs (suc m)) m (lines_by (opens (k.hour + 1) (mended k.known (up_to hs (suc m)))) (behind hs (suc m))))
first-hour (Restarted ∷ hs) k m begun s t b =
    let d = up_to hs (suc m) in
    first-hour hs (restarted_by k) m begun s t b
    ∙ ap (λ (x : Bool). hourly k.hour (doses_in d) (eqb (ticks_in d) (suc m) && (x && mended true d)) (lines_by (opens (k.hour + 1) (mended true d)) (behind hs (suc m))))
    (ap (λ (y : Bool). (k.whole && y) && unbroken begun d) b ∙ and_assoc k.whole (not begun) (unbroken begun d))
first-hour (Lost ∷ hs) k m begun s t b =
    let d = up_to hs (suc m) in
    first-hour hs (lost_by k) m begun s t b
    ∙ ap (λ (x : Bool). hourly k.hour (doses_in d) (eqb (ticks_in d) (suc m) && (x && mended false d)) (lines_by (opens (k.hour + 1) (mended false d)) (behind hs (suc m))))
    (sym (and-false k.whole))
first-hour (Other ∷ hs) k m begun s t b = first-hour hs k m begun s t b

-- ---- hour after hour

-- a line of another hour says nothing of hour h
Elsewhere : ℕ → Line → Type 0
Elsewhere h (Dose x c a s p) = x ≡ h → ⊥
Elsewhere h (On x) = x ≡ h → ⊥

elsewhere-skips : (w : Products) (h : ℕ) (ls more : List Line) → Each (Elsewhere h) ls → (has_on h (ls ++ more) ≡ has_on h more) × (amounts_at w h (ls ++ more) ≡ amounts_at w h more)
unfolding Elsewhere has_on is_on amounts_at dose_at
elsewhere-skips w h [] more e = (refl, refl)
elsewhere-skips w h (Dose x c a s p ∷ ls) more e =
    let r = elsewhere-skips w h ls more e.1 in
    (r.0, ap (λ (l : List ℕ). l ++ amounts_at w h (ls ++ more)) (pick-f _ _ _ (ap (λ (b : Bool). asks_for w p && b) (ne_eqb x h e.0) ∙ and-false (asks_for w p))) ∙ r.1)
elsewhere-skips w h (On x ∷ ls) more e =
    let r = elsewhere-skips w h ls more e.1 in
    (ap (λ (b : Bool). b || has_on h (ls ++ more)) (ne_eqb x h e.0) ∙ r.0, r.1)

each_append : (P : Line → Type 0) (a b : List Line) → Each P a → Each P b → Each P (a ++ b)
each_append P [] b e f = f
each_append P (l ∷ a) b e f = (e.0, each_append P a b e.1 f)

doses-elsewhere : (h x : ℕ) (ds : List Record) → (x ≡ h → ⊥) → Each (Elsewhere h) (map (dose_in x) ds)
unfolding Elsewhere dose_in
doses-elsewhere h x [] n = tt
doses-elsewhere h x (d ∷ ds) n = (n, doses-elsewhere h x ds n)

-- a dose counts where its product is asked for
asked-amount : (w : Products) (d : Record) → pick (asks_for w d.product && true) (d.amount ∷ []) [] ≡ amounts_of (pick (asks_for w d.product) (d ∷ []) [])
unfolding pick
asked-amount w d = go (asks_for w d.product)
  where
    go : (b : Bool) → pick (b && true) (d.amount ∷ []) [] ≡ amounts_of (pick b (d ∷ []) [])
    go true = refl
    go false = refl

-- the D lines of hour h
doses-here : (w : Products) (h : ℕ) (ds : List Record) (more : List Line) → (has_on h (map (dose_in h) ds ++ more) ≡ has_on h more) × (amounts_at w h (map (dose_in h) ds ++ more) ≡ amounts_of (asked_of w ds) ++ amounts_at w h more)
unfolding has_on is_on amounts_at dose_at dose_in asked_of
doses-here w h [] more = (refl, refl)
doses-here w h (d ∷ ds) more =
    let r = doses-here w h ds more in
    let here = pick (asks_for w d.product) (d ∷ []) [] in (
      r.0,
      ap₂ (λ (a b : List ℕ). a ++ b) (ap (λ (b : Bool). pick (asks_for w d.product && b) (d.amount ∷ []) []) (eq-eqb h h refl) ∙ asked-amount w d) r.1
          ∙ sym (append_assoc (amounts_of here) (amounts_of (asked_of w ds)) (amounts_at w h more))
          ∙ ap (λ (l : List ℕ). l ++ amounts_at w h more) (sym (map-append (λ (x : Record). x.amount) here (asked_of w ds))),
    )

-- the lines from a clock on are of its hour or later
closing-elsewhere : (h : ℕ) (k : Clock) → h < k.hour → Each (Elsewhere h) (closing k)
unfolding closing Elsewhere
closing-elsewhere h k n = pick_all (Each (Elsewhere h)) (k.whole && k.known) ((λ z. absurd (omega (arith, z))), tt) tt

ticks-elsewhere : (h : ℕ) (k : Clock) (ds : List Record) → h < k.hour → Each (Elsewhere h) (tick_lines k (map (dose_in k.hour) ds))
unfolding tick_lines
ticks-elsewhere h k ds n =
    let o = doses-elsewhere h k.hour ds (λ z. absurd (omega (arith, z))) in
    pick_all (Each (Elsewhere h)) (eqb (k.ticks + 1) ticks_an_hour) (each_append (Elsewhere h) (map (dose_in k.hour) ds) (closing k) o (closing-elsewhere h k n)) o

more-hour : (k : Clock) → k.hour ≤ (one_more k []).next.hour
unfolding one_more next_hour with_whole with_ticks with_hour
more-hour k = pick_all (λ (n : Note). k.hour ≤ n.next.hour) (eqb (k.ticks + 1) ticks_an_hour) (omega arith) (omega arith)

later-none : (w : Products) (hs : List Heard) (k : Clock) (h : ℕ) → h < k.hour → (has_on h (lines_by k hs) ≡ false) × (amounts_at w h (lines_by k hs) ≡ [])
unfolding lines_by has_on amounts_at restarted_by lost_by with_known with_whole
later-none w [] k h n = (refl, refl)
later-none w (Ticked ∷ hs) k h n =
    let r = later-none w hs (one_more k []).next h (omega (arith, more-hour k)) in
    let e = elsewhere-skips w h (tick_lines k []) (lines_by (one_more k []).next hs) (ticks-elsewhere h k [] n) in
    (e.0 ∙ r.0, e.1 ∙ r.1)
later-none w (Dosed d ∷ hs) k h n =
    let r = later-none w hs (one_more k []).next h (omega (arith, more-hour k)) in
    let e = elsewhere-skips w h (tick_lines k (dose_in k.hour d ∷ [])) (lines_by (one_more k []).next hs) (ticks-elsewhere h k (d ∷ []) n) in
    (e.0 ∙ r.0, e.1 ∙ r.1)
later-none w (Restarted ∷ hs) k h n = later-none w hs (restarted_by k) h n
later-none w (Lost ∷ hs) k h n = later-none w hs (lost_by k) h n
later-none w (Other ∷ hs) k h n = later-none w hs k h n

mended-append : (a b : List Heard) (n : Bool) → mended n (a ++ b) ≡ mended (mended n a) b
unfolding mended
mended-append [] b n = refl
mended-append (Ticked ∷ a) b n = mended-append a b n
mended-append (Dosed d ∷ a) b n = mended-append a b n
mended-append (Restarted ∷ a) b n = mended-append a b true
mended-append (Lost ∷ a) b n = mended-append a b false
mended-append (Other ∷ a) b n = mended-append a b n

-- the H of an hour before the lines of later ones
on-here : (w : Products) (h : ℕ) (on : Bool) (more : List Line) → has_on h more ≡ false → amounts_at w h more ≡ [] → (has_on h (pick on (On h ∷ []) [] ++ more) ≡ on) × (amounts_at w h (pick on (On h ∷ []) [] ++ more) ≡ [])
unfolding pick has_on is_on amounts_at dose_at
on-here w h true more a b = (ap (λ (x : Bool). x || has_on h more) (eq-eqb h h refl), b)
on-here w h false more a b = (a, b)

on-elsewhere : (h x : ℕ) (on : Bool) → (x ≡ h → ⊥) → Each (Elsewhere h) (pick on (On x ∷ []) [])
unfolding Elsewhere
on-elsewhere h x on n = pick_all (Each (Elsewhere h)) on (n, tt) tt

-- an hour number k of what is heard from an hour's start on, the box known or not
seen_from : Bool → ℕ → List Heard → Bool
seen_from n k hs = eqb (ticks_in (hour_lines k hs)) ticks_an_hour && (unbroken false (hour_lines k hs) && mended n (so_far k hs))

record Tells (w : Products) (x : ℕ) (n : Bool) (k : ℕ) (hs : List Heard) : Type 0 where
  on : has_on (x + k) (lines_by (opens x n) hs) ≡ seen_from n k hs
  amounts : amounts_at w (x + k) (lines_by (opens x n) hs) ≡ amounts_of (asked_of w (doses_in (hour_lines k hs)))

first-is : (x : ℕ) (n : Bool) (hs : List Heard) → Hour-is (opens x n) ticks_an_hour false hs (lines_by (opens x n) hs)
first-is x n hs = first-hour hs (opens x n) 449999 false refl (omega arith) (eq-eqb 0 0 refl)

hour-tells : (w : Products) (k x : ℕ) (n : Bool) (hs : List Heard) → Tells w x n k hs
unfolding hourly hour_lines so_far seen_from
hour-tells w zero x n hs =
    let h : x + 0 ≡ x = omega arith in
    let d = up_to hs ticks_an_hour in
    let on = eqb (ticks_in d) ticks_an_hour && ((true && unbroken false d) && mended n d) in
    let rest = lines_by (opens (x + 1) (mended n d)) (behind hs ticks_an_hour) in
    let l = later-none w (behind hs ticks_an_hour) (opens (x + 1) (mended n d)) x (omega arith) in
    let o = on-here w x on rest l.0 l.1 in
    let s = doses-here w x (doses_in d) (pick on (On x ∷ []) [] ++ rest) in
    record {
      on = ap₂ (λ (i : ℕ) (ls : List Line). has_on i ls) h (first-is x n hs) ∙ s.0 ∙ o.0;
      amounts = ap₂ (λ (i : ℕ) (ls : List Line). amounts_at w i ls) h (first-is x n hs) ∙ s.1 ∙ ap (λ (l : List ℕ). amounts_of (asked_of w (doses_in d)) ++ l) o.1 ∙ append-nil (amounts_of (asked_of w (doses_in d)));
    }
hour-tells w (suc k) x n hs =
    let h : x + suc k ≡ (x + 1) + k = omega arith in
    let d = up_to hs ticks_an_hour in
    let on = eqb (ticks_in d) ticks_an_hour && ((true && unbroken false d) && mended n d) in
    let rest = lines_by (opens (x + 1) (mended n d)) (behind hs ticks_an_hour) in
    let t = hour-tells w k (x + 1) (mended n d) (behind hs ticks_an_hour) in
    let a = elsewhere-skips w (x + suc k) (map (dose_in x) (doses_in d)) (pick on (On x ∷ []) [] ++ rest) (doses-elsewhere (x + suc k) x (doses_in d) (λ z. absurd (omega (arith, z)))) in
    let b = elsewhere-skips w (x + suc k) (pick on (On x ∷ []) []) rest (on-elsewhere (x + suc k) x on (λ z. absurd (omega (arith, z)))) in
    record {
      on =
          ap (has_on (x + suc k)) (first-is x n hs) ∙ a.0 ∙ b.0
          ∙ ap (λ (i : ℕ). has_on i rest) h
          ∙ t.on
          ∙ ap (λ (m : Bool). eqb (ticks_in (hour_lines k (behind hs ticks_an_hour))) ticks_an_hour && (unbroken false (hour_lines k (behind hs ticks_an_hour)) && m)) (sym (mended-append d (so_far k (behind hs ticks_an_hour)) n));
      amounts = ap (amounts_at w (x + suc k)) (first-is x n hs) ∙ a.1 ∙ b.1 ∙ ap (λ (i : ℕ). amounts_at w i rest) h ∙ t.amounts;
    }

-- ---- the text that is accepted has these lines

abbrev Good : List Line → Type 0
Good ls = Each (λ l. in_range New l ≡ true) ls

-- a text begins with some lines
record Stripped (ls : List Line) (rest : List ℕ) (ms : List Line) : Type 0 where
  more : List Line
  is : ms ≡ ls ++ more
  text : rest ≡ lines_text New more
  range : Good more

strip-one : (l : Line) (rest : List ℕ) (ms : List Line) → in_range New l ≡ true → Good ms → text_of New l ++ rest ≡ lines_text New ms → Stripped (l ∷ []) rest ms
unfolding lines_text line_of
strip-one l rest [] r g e = bad-good (ap (line_of New) (sym e) ∙ read-text New l rest r)
strip-one l rest (m ∷ ms) r g e =
    let both : good l rest ≡ good m (lines_text New ms) = sym (read-text New l rest r) ∙ ap (line_of New) e ∙ read-text New m (lines_text New ms) g.0 in
    let p : l ≡ m = cc in
    let q : rest ≡ lines_text New ms = cc in
    record { more = ms; is = ap (λ (x : Line). x ∷ ms) (sym p); text = q; range = g.1 }

strips : (ls : List Line) (rest : List ℕ) (ms : List Line) → Good ls → Good ms → lines_text New ls ++ rest ≡ lines_text New ms → Stripped ls rest ms
unfolding lines_text
strips [] rest ms r g e = record { more = ms; is = refl; text = e; range = g }
strips (l ∷ ls) rest ms r g e =
    let s = strip-one l (lines_text New ls ++ rest) ms r.0 g (sym (append_assoc (text_of New l) (lines_text New ls) rest) ∙ e) in
    let t = strips ls rest s.more r.1 s.range s.text in
    record { more = t.more; is = s.is ∙ ap (λ (x : List Line). l ∷ x) t.is; text = t.text; range = t.range }

no_more : (ms : List Line) → Good ms → [] ≡ lines_text New ms → ms ≡ []
unfolding lines_text line_of
no_more [] g e = refl
no_more (m ∷ ms) g e = bad-good (ap (line_of New) e ∙ read-text New m (lines_text New ms) g.0)

-- a refusal is no line
refusal-none : {Q : Type 0} (rest : List ℕ) (ms : List Line) → Good ms → refusal_text 0 ++ rest ≡ lines_text New ms → Q
unfolding lines_text refusal_text line_of pick
refusal-none rest [] g e = let z : suc _ ≡ 0 = ap length e in absurd (omega (arith, z))
refusal-none rest (m ∷ ms) g e = bad-good (ap (line_of New) e ∙ read-text New m (lines_text New ms) g.0)

abbrev with : Controller → Clock → Recorder
with c k = record { controller = c; clock = k }

-- what the lines that follow give, from every clock that they can meet
abbrev Following : Controller → List (List ℕ) → Type 0
Following c script = (k : Clock) (ms : List Line) → k.stage ≡ Recording → Runs k → Good ms → notes_of (with c k) script ≡ lines_text New ms → ms ≡ lines_by k (heard_all c script)

tick-good : (k : Clock) (ds : List Line) → k.hour ≤ greatest_hour → Good ds → Good (tick_lines k ds)
unfolding tick_lines closing
tick-good k ds h g =
    pick_all Good (eqb (k.ticks + 1) ticks_an_hour)
    (each_append (λ l. in_range New l ≡ true) ds (pick (k.whole && k.known) (On k.hour ∷ []) []) g (pick_all Good (k.whole && k.known) (on-in-range k.hour h, tt) tt))
    g

tick-text : (k : Clock) (ds : List Line) → ((one_more k ds).text ≡ lines_text New (tick_lines k ds)) × ((one_more k ds).next ≡ (one_more k []).next)
unfolding one_more tick_lines pick
tick-text k ds = go (eqb (k.ticks + 1) ticks_an_hour)
  where
    go : (b : Bool) → ((pick b (note (next_hour k) (lines_text New (ds ++ closing k))) (note (with_ticks (k.ticks + 1) k) (lines_text New ds))).text ≡ lines_text New (pick b (ds ++ closing k) ds))
        × ((pick b (note (next_hour k) (lines_text New (ds ++ closing k))) (note (with_ticks (k.ticks + 1) k) (lines_text New ds))).next
        ≡ (pick b (note (next_hour k) (lines_text New ([] ++ closing k))) (note (with_ticks (k.ticks + 1) k) (lines_text New []))).next)
    go true = (refl, refl)
    go false = (refl, refl)

more-runs : (k : Clock) → k.hour ≤ greatest_hour → Runs k → Runs (one_more k []).next
unfolding one_more
more-runs k h r = pick-if (λ (n : Note). Runs n.next) (eqb (k.ticks + 1) ticks_an_hour) (λ e. next-runs k h) (λ e. ticks-runs k r e)

more-stage : (k : Clock) → (one_more k []).next.stage ≡ k.stage
unfolding one_more next_hour with_whole with_ticks with_hour
more-stage k = pick_all (λ (n : Note). n.next.stage ≡ k.stage) (eqb (k.ticks + 1) ticks_an_hour) refl refl

counted-lines : (c : Controller) (k : Clock) (ds : List Line) (script : List (List ℕ)) (ms : List Line) → k.stage ≡ Recording → Runs k → (k.hour ≤ greatest_hour → Good ds) → Good ms
    → (counts k ds).text ++ notes_of (with c (counts k ds).next) script ≡ lines_text New ms → Following c script → ms ≡ tick_lines k ds ++ lines_by (one_more k []).next (heard_all c script)
unfolding counts refuse pick
counted-lines c k ds script ms s r o g e rest = go (ltb greatest_hour k.hour) refl e
  where
    go : (b : Bool) → ltb greatest_hour k.hour ≡ b → (pick b (refuse 0 k) (one_more k ds)).text ++ notes_of (with c (pick b (refuse 0 k) (one_more k ds)).next) script ≡ lines_text New ms
        → ms ≡ tick_lines k ds ++ lines_by (one_more k []).next (heard_all c script)
    go true h t = refusal-none _ ms g t
    go false h t =
        let hour = ltb-false greatest_hour k.hour h in
        let x = tick-text k ds in
        let is : lines_text New (tick_lines k ds) ++ notes_of (with c (one_more k []).next) script ≡ lines_text New ms =
        ap₂ (λ (a : List ℕ) (n : Clock). a ++ notes_of (with c n) script) (sym x.0) (sym x.1) ∙ t in
        let p = strips (tick_lines k ds) _ ms (tick-good k ds hour (o hour)) g is in
        p.is ∙ ap (λ (l : List Line). tick_lines k ds ++ l) (rest (one_more k []).next p.more (more-stage k ∙ s) (more-runs k hour r) p.range p.text)

heard-lines : (h : Heard) (c : Controller) (k : Clock) (script : List (List ℕ)) (ms : List Line) → k.stage ≡ Recording → Runs k → Writable h → Good ms
    → (heard_by k h).text ++ notes_of (with c (heard_by k h).next) script ≡ lines_text New ms → Following c script → ms ≡ lines_by k (h ∷ heard_all c script)
unfolding heard_by passed_by lines_by restarted_by lost_by with_known with_whole
heard-lines Ticked c k script ms s r w g e rest = counted-lines c k [] script ms s r (λ h. tt) g e rest
heard-lines (Dosed d) c k script ms s r w g e rest = counted-lines c k (dose_in k.hour d ∷ []) script ms s r (λ h. (dose-in-range k.hour d h w, tt)) g e rest
heard-lines Restarted c k script ms s r w g e rest = rest (restarted_by k) ms s (passed-runs k Restarted r) g e
heard-lines Lost c k script ms s r w g e rest = rest (lost_by k) ms s (passed-runs k Lost r) g e
heard-lines Other c k script ms s r w g e rest = rest k ms s r g e

script-lines : (script : List (List ℕ)) (c : Controller) → Sound c → Following c script
unfolding notes_of next_of note_of note_by box_by heard_all lines_by
script-lines [] c a = λ k ms s r g e. no_more ms g e
script-lines (l ∷ script) c a = λ k ms s r g e.
    let d = made_by c (call_of l) in
    heard-lines (heard_of c (call_of l)) d k script ms s r (heard-writable c (call_of l) a) g
    (sym (ap (λ (t : Stage). (note_by t (with c k) l).text ++ notes_of (with (box_by t c l) (note_by t (with c k) l).next) script) s) ∙ e)
    (script-lines script d (made-sound c (call_of l) a))

-- ---- the counts of the D lines are those of the doses

counts-append : (a b : List Line) → counts_in (a ++ b) ≡ counts_in a ++ counts_in b
unfolding counts_in
counts-append [] b = refl
counts-append (Dose x c m t p ∷ a) b = ap (λ (l : List ℕ). c ∷ l) (counts-append a b)
counts-append (On x ∷ a) b = counts-append a b

closing-counts : (k : Clock) → counts_in (closing k) ≡ []
unfolding closing counts_in
closing-counts k = pick_all (λ (l : List Line). counts_in l ≡ []) (k.whole && k.known) refl refl

tick-counts : (k : Clock) (ds : List Line) → counts_in (tick_lines k ds) ≡ counts_in ds
unfolding tick_lines
tick-counts k ds =
    pick_all (λ (l : List Line). counts_in l ≡ counts_in ds) (eqb (k.ticks + 1) ticks_an_hour)
    (counts-append ds (closing k) ∙ ap (λ (l : List ℕ). counts_in ds ++ l) (closing-counts k) ∙ append-nil (counts_in ds))
    refl

lines-counts : (hs : List Heard) (k : Clock) → counts_in (lines_by k hs) ≡ counts_of (doses_in hs)
unfolding lines_by doses_in counts_in dose_in
lines-counts [] k = refl
lines-counts (Ticked ∷ hs) k =
    counts-append (tick_lines k []) (lines_by (one_more k []).next hs)
    ∙ ap₂ (λ (a b : List ℕ). a ++ b) (tick-counts k []) (lines-counts hs (one_more k []).next)
lines-counts (Dosed d ∷ hs) k =
    counts-append (tick_lines k (dose_in k.hour d ∷ [])) (lines_by (one_more k []).next hs)
    ∙ ap₂ (λ (a b : List ℕ). a ++ b) (tick-counts k (dose_in k.hour d ∷ [])) (lines-counts hs (one_more k []).next)
lines-counts (Restarted ∷ hs) k = lines-counts hs (restarted_by k)
lines-counts (Lost ∷ hs) k = lines-counts hs (lost_by k)
lines-counts (Other ∷ hs) k = lines-counts hs k

-- ---- the statement

-- an input: the hour of the first tick alone on the first line, and then a script
pub record Script (input : List ℕ) : Type 0 where
  pub line : List ℕ
  pub first : ℕ
  pub script : List (List ℕ)
  pub lines : lines_of [] input ≡ line ∷ script
  pub hour : number_at greatest_hour line ≡ good first []

-- what its lines were, the controller being fresh at the start
abbrev pub heard_in : {input : List ℕ} → Script input → List Heard
heard_in s = heard_all fresh_of s.script

-- what a recording begins with says its form
new-form : (s : List ℕ) → form_of (version_text ++ s) ≡ New
unfolding form_of versioned version_text pick
new-form s = refl

past-version : {a b : List ℕ} → version_text ++ a ≡ version_text ++ b → a ≡ b
unfolding version_text
past-version e = ap (drop 4) e

module _ (input : List ℕ) (s : Script input) (ls : List Line) (accepted : journal_of (record_of input) ≡ done ls) where
  begins : record_of input ≡ version_text ++ notes_of (with fresh_of (opens s.first true)) s.script
  unfolding record_of notes_of next_of note_of note_by box_by start_of clock.start_of first_of with_stage with_hour
  begins =
      ap (notes_of start_of) s.lines ∙ ap (λ (p : Parsed ℕ). (first_of start_of.clock p).text ++ notes_of (with fresh_of (first_of start_of.clock p).next) s.script) s.hour

  -- its journal is of the new form
  pub is-new : form_of (record_of input) ≡ New
  is-new = ap form_of begins ∙ new-form (notes_of (with fresh_of (opens s.first true)) s.script)

  lines_are : ls ≡ lines_by (opens s.first true) (heard_in s)
  unfolding journal_text head_text
  lines_are =
      let most = (number-only greatest_hour s.line s.first [] s.hour).1 in
      let text : record_of input ≡ journal_text New ls = journal-text (record_of input) ls accepted ∙ ap (λ (f : Form). journal_text f ls) is-new in
      let range : Good ls = subst (λ (f : Form). Each (λ l. in_range f l ≡ true) ls) is-new (journal-range (record_of input) ls accepted) in
      script-lines s.script fresh_of fresh-sound (opens s.first true) ls refl (record { ticks = omega arith; hour = omega (arith, most) }) range
      (past-version (sym begins ∙ text))

  -- the hour number k after the first, for the products that are asked for: missing in a hole of the dose numbers; else measured or idle exactly if it was seen in full, by the doses of those products that its ticks completed; else missing
  pub consumption : (w : Products) (k : ℕ) → hour_of w ls (s.first + k) ≡ hour_with (in_hole (s.first + k) ls) (seen_in_full k (heard_in s)) (asked_of w (doses_in (hour_lines k (heard_in s))))
  unfolding hour_of hour_with seen_in_full seen_from
  consumption w k =
      let t = hour-tells w k s.first true (heard_in s) in
      let h = s.first + k in
      ap₂ (λ (on : Bool) (amounts : List ℕ). pick (in_hole h ls) missing (pick on (measured_or_idle amounts) missing))
      (ap (has_on h) lines_are ∙ t.on) (ap (amounts_at w h) lines_are ∙ t.amounts)

  -- for one product: by the doses that its ticks completed while that product was set
  pub of-one-product : (p k : ℕ) → hour_of (One p) ls (s.first + k) ≡ hour_with (in_hole (s.first + k) ls) (seen_in_full k (heard_in s)) (doses_in (hour_lines k (heard_while p fresh_of s.script)))
  of-one-product p k = consumption (One p) k ∙ ap (hour_with (in_hole (s.first + k) ls) (seen_in_full k (heard_in s))) (hour-product s.script fresh_of p k fresh-sound)

  -- no hour before the first is anything but missing
  pub before-first : (w : Products) (h : ℕ) → h < s.first → hour_of w ls h ≡ missing
  unfolding hour_of
  before-first w h b =
      pick_all (λ (x : HourAnswer). x ≡ missing) (in_hole h ls) refl
      (pick-f _ _ _ (ap (has_on h) lines_are ∙ (later-none w (heard_in s) (opens s.first true) h b).0))

  -- so it is measured if it was seen in full and a dose that is asked for completed in it, idle if it was seen in full and none did, missing else; and missing in a hole
  pub is-measured : (w : Products) (k : ℕ) (d : Record) (ds : List Record) → in_hole (s.first + k) ls ≡ false → seen_in_full k (heard_in s) ≡ true → asked_of w (doses_in (hour_lines k (heard_in s))) ≡ d ∷ ds
      → hour_of w ls (s.first + k) ≡ measured (sum_of (amounts_of (d ∷ ds))) (largest_of (amounts_of (d ∷ ds))) (mean_of (amounts_of (d ∷ ds)))
  unfolding hour_with measured_or_idle
  is-measured w k d ds x e f = consumption w k ∙ pick-f _ _ _ x ∙ pick-t _ _ _ e ∙ ap (λ (rs : List Record). measured_or_idle (amounts_of rs)) f

  pub is-idle : (w : Products) (k : ℕ) → in_hole (s.first + k) ls ≡ false → seen_in_full k (heard_in s) ≡ true → asked_of w (doses_in (hour_lines k (heard_in s))) ≡ [] → hour_of w ls (s.first + k) ≡ idle
  unfolding hour_with measured_or_idle
  is-idle w k x e f = consumption w k ∙ pick-f _ _ _ x ∙ pick-t _ _ _ e ∙ ap (λ (rs : List Record). measured_or_idle (amounts_of rs)) f

  pub is-missing : (w : Products) (k : ℕ) → seen_in_full k (heard_in s) ≡ false → hour_of w ls (s.first + k) ≡ missing
  unfolding hour_with
  is-missing w k e = consumption w k ∙ pick_all (λ (x : HourAnswer). x ≡ missing) (in_hole (s.first + k) ls) refl (pick-f _ _ _ e)

  pub is-holed : (w : Products) (k : ℕ) → in_hole (s.first + k) ls ≡ true → hour_of w ls (s.first + k) ≡ missing
  unfolding hour_with
  is-holed w k x = consumption w k ∙ pick-t _ _ _ x

  -- what is printed of it: M with the number and the sum of those doses, I or X
  pub printed : (w : Products) (k : ℕ) → row_of w ls (s.first + k)
      ≡ row_from (hour_with (in_hole (s.first + k) ls) (seen_in_full k (heard_in s)) (asked_of w (doses_in (hour_lines k (heard_in s))))) (amounts_of (asked_of w (doses_in (hour_lines k (heard_in s)))))
  unfolding row_of
  printed w k = ap₂ row_from (consumption w k) (ap (amounts_at w (s.first + k)) lines_are ∙ (hour-tells w k s.first true (heard_in s)).amounts)

  -- where from the first dose on the script's restarts hand the counters back, no hour lies in a hole
  pub no-hole : (before es : List Event) → events_of s.script ≡ before ++ es → records fresh_of before ≡ [] → hands_back (run fresh_of before) es ≡ true → (h : ℕ) → in_hole h ls ≡ false
  no-hole before es w none e h =
      follow-no-hole h ls
      (ap all_follow
      (ap counts_in lines_are
      ∙ lines-counts (heard_in s) (opens s.first true)
      ∙ ap counts_of (doses-are s.script fresh_of fresh-sound ∙ ap (records fresh_of) w))
      ∙ records-follow before es fresh_of fresh-sound none e)
