-- The records of a series are the doses seen in it, and can be written. Assumes nothing.
use Rattle.std.specs.Prelude.{◌≡◌, refl, List, [], ◌∷◌, ◌++◌, map}
use Rattle.std.proofs.Common.{ap₂, ◌∙◌}
use Rattle.std.proofs.lemmas.List.{map-append}
use Rattle.controller.specs.declared.Controller.{Controller}
use Rattle.controller.specs.State.{fresh_of}
use Rattle.controller.specs.Sound.{Sound}
use Rattle.counters.specs.Laws.{AllRecordable}
use Rattle.series.specs.Events.{Event, event_of, counting_at, Outside, nothing_seen, seen_after, records_at, records}
use Rattle.series.specs.Kept.{counters_from}
use Rattle.series.proofs.Kept.{event-kept, sound-kept, event-sound}
use Rattle.series.specs.Walk.{Accords, accords-fresh}
use Rattle.series.proofs.Walk.{accords-from, accords-event}
use Rattle.series.specs.Records.{Numbered, numbered_at, numbered_in, number_of, numbered-tells, recordable-append}

event-numbered : (c : Controller) (o : Outside) (e : Event) → Accords c o → map number_of (records_at c e) ≡ numbered_at c e o
unfolding numbered_at
event-numbered c o e k =
    numbered-tells (counters_from (counting_at c e) c.counters) _ _ _ _ (accords-from c o e k)
    (event-kept c o.notes k.sound k.agrees e).told

-- the records of a series are the doses seen in it, each with the count after it
pub run-numbered : (es : List Event) (c : Controller) (o : Outside) → Accords c o → map number_of (records c es) ≡ numbered_in c o es
unfolding records numbered_in
run-numbered [] c o k = refl
run-numbered (e ∷ es) c o k =
    map-append number_of (records_at c e) (records (event_of c e) es)
    ∙ ap₂ (λ (a b : List Numbered). a ++ b) (event-numbered c o e k)
    (run-numbered es (event_of c e) (seen_after c e o) (accords-event c o e k))

pub records-numbered : (es : List Event) → map number_of (records fresh_of es) ≡ numbered_in fresh_of nothing_seen es
records-numbered es = run-numbered es fresh_of nothing_seen accords-fresh

-- count at most 999,999, amount at most 1,800,000
pub records-recordable : (es : List Event) (c : Controller) → Sound c → AllRecordable (records c es)
unfolding records
records-recordable [] c s = tt
records-recordable (e ∷ es) c s =
    recordable-append (records_at c e) _ (sound-kept c e s).1.recordable (records-recordable es (event_of c e) (event-sound c e s))
