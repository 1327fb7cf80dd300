-- Count and total over any series, by what each event keeps. Assumes nothing.
use Rattle.std.specs.Prelude.{◌≡◌, refl, true, List, [], ◌∷◌}
use Rattle.std.proofs.Common.{append_assoc, append-nil}
use Rattle.laws.specs.Bools.{and_left, and_right}
use Rattle.hourly.specs.Hours.{total}
use Rattle.controller.specs.declared.Controller.{Controller}
use Rattle.counters.specs.declared.Counters.{Counters}
use Rattle.series.specs.Events.{Event, event_of, run, sight_of, Counting, goes_on, cleared, given, counting_at, Outside, counted_from, with_sight, seen_after, seen, handed_back, hands_back}
use Rattle.series.specs.Kept.{counters_from}
use Rattle.series.proofs.Kept.{event-kept}
use Rattle.series.specs.Walk.{counted-more, Since, Accords, since-from, given-same, CountsAll}

pub accords-from : (c : Controller) (o : Outside) (e : Event) → Accords c o → Since (counters_from (counting_at c e) c.counters) (counted_from (counting_at c e) o)
accords-from c o e k =
    since-from (counting_at c e) c.counters o (event-kept c o.notes k.sound k.agrees e).range k.counts

pub accords-event : (c : Controller) (o : Outside) (e : Event) → Accords c o → Accords (event_of c e) (seen_after c e o)
unfolding seen_after with_sight
accords-event c o e k =
    let r = event-kept c o.notes k.sound k.agrees e in
    record { sound = r.sound; agrees = r.agrees; counts = rw r.counters (counted-more _ _ _ _ (accords-from c o e k)) }

pub accords-run : (es : List Event) (c : Controller) (o : Outside) → Accords c o → Accords (run c es) (seen c o es)
unfolding run seen
accords-run [] c o k = k
accords-run (e ∷ es) c o k = accords-run es (event_of c e) (seen_after c e o) (accords-event c o e k)

all_from : (k : Counting) (n : Counters) (o : Outside) → handed_back k n ≡ true → CountsAll n o → CountsAll (counters_from k n) (counted_from k o)
unfolding counters_from counted_from total
all_from goes_on n o h a = a
all_from cleared n o h a = record { count = refl; total = refl }
all_from (given count total) n o h a = rw (given-same count total n h, append-nil) a

all-event : (c : Controller) (o : Outside) (e : Event) → handed_back (counting_at c e) c.counters ≡ true → Accords c o → CountsAll c.counters o → CountsAll (event_of c e).counters (seen_after c e o)
unfolding seen_after with_sight
all-event c o e h k a =
    rw (event-kept c o.notes k.sound k.agrees e).counters
    (rw append_assoc at (counted-more _ _ _ (sight_of c e o.notes).doses (all_from (counting_at c e) c.counters o h a)))

pub all-run : (es : List Event) (c : Controller) (o : Outside) → hands_back c es ≡ true → Accords c o → CountsAll c.counters o → CountsAll (run c es).counters (seen c o es)
unfolding run seen hands_back
all-run [] c o h k a = a
all-run (e ∷ es) c o h k a =
    let here = handed_back (counting_at c e) c.counters in
    all-run es (event_of c e) (seen_after c e o) (and_right here _ h) (accords-event c o e k) (all-event c o e (and_left here _ h) k a)
