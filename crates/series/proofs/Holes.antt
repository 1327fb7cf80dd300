-- The counts of the records of a series follow each other. Assumes nothing.
use Rattle.std.specs.Prelude.{◌≡◌, refl, true, List, [], ◌∷◌, ◌++◌, ℕ}
use Rattle.std.proofs.Common.{sym, subst}
use Rattle.std.proofs.lemmas.List.{map-append}
use Rattle.laws.specs.Bools.{and_left, and_right}
use Rattle.holes.specs.HoleLaws.{follow_on, all_follow, first-free, one_follows}
use Rattle.controller.specs.declared.Controller.{Controller}
use Rattle.counters.specs.declared.Counters.{Counters}
use Rattle.counters.specs.declared.Record.{Record}
use Rattle.controller.specs.State.{fresh_of}
use Rattle.controller.specs.Sound.{Sound}
use Rattle.controller.specs.Keeps.{fresh-sound}
use Rattle.series.specs.Events.{Event, event_of, run, Counting, goes_on, cleared, given, counting_at, handed_back, hands_back, records_at, records}
use Rattle.series.specs.Kept.{counters_from}
use Rattle.series.proofs.Kept.{sound-kept, run_sound}
use Rattle.series.specs.Walk.{given-same}
use Rattle.series.specs.Records.{records-append}
use Rattle.series.specs.Holes.{counts_of, Next, next-count, told-follow}

-- also after a reset, and after a restart that hands back the counters as they were
next-from : (before : ℕ) (k : Counting) (n : Counters) → handed_back k n ≡ true → Next before n → Next before (counters_from k n)
unfolding counters_from
next-from before goes_on n h e = e
next-from before cleared n h e = one_follows before
next-from before (given count total) n h e = subst (Next before) (sym (given-same count total n h)) e

run-follow : (es : List Event) (c : Controller) (before : ℕ) → Sound c → hands_back c es ≡ true → Next before c.counters → follow_on before (counts_of (records c es)) ≡ true
unfolding hands_back records follow_on
run-follow [] c before s h n = refl
run-follow (e ∷ es) c before s h n =
    let here = handed_back (counting_at c e) c.counters in
    let k = (sound-kept c e s).1 in
    rw (map-append (λ (r : Record). r.count) (records_at c e) (records (event_of c e) es))
    (told-follow before (counters_from (counting_at c e) c.counters) _ (records_at c e) _ k.told (next-from before (counting_at c e) c.counters (and_left here _ h) n)
    (λ last m. run-follow es (event_of c e) last k.sound (and_right here _ h) (rw k.counters m)))

-- where every accepted restart hands back the counters as they were, each record's count follows the one before it, and the first the controller's own
pub records-follow-on : (es : List Event) (c : Controller) → Sound c → hands_back c es ≡ true → follow_on c.counters.count (counts_of (records c es)) ≡ true
records-follow-on es c s h = run-follow es c c.counters.count s h (next-count c.counters s.count)

-- from any sound controller, also where restarts before the first record brought other numbers: the count of each record but the first follows
pub records-follow : (before es : List Event) (c : Controller) → Sound c → records c before ≡ [] → hands_back (run c before) es ≡ true → all_follow (counts_of (records c (before ++ es))) ≡ true
records-follow before es c s none h =
    rw (records-append before es c, none)
    (first-free _ _ (records-follow-on es (run c before) (run_sound before c s) h))

-- from the fresh controller
pub fresh-follow : (es : List Event) → hands_back fresh_of es ≡ true → all_follow (counts_of (records fresh_of es)) ≡ true
fresh-follow es h = first-free _ _ (records-follow-on es fresh_of fresh-sound h)
