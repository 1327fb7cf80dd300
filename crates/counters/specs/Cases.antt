-- Counters and records on numbers. Assumes nothing.
use Rattle.std.specs.Prelude.{◌≡◌, refl, true, false, [], ◌∷◌, None}
use Rattle.laws.specs.Pick.{pick}
use Rattle.dosing.specs.Rules.{dosed}
use Rattle.counters.specs.Counters.{counters, counted_of, counters_after, record_of, records_of}

-- 0 follows 999,999; total 999,999,999 plus 1 is 0; nothing is counted without a dose
pub counted :
    (counters_after (counters 5 9) None ≡ counters 5 9)
    × (counters_after (counters 5 9) (dosed 3 true) ≡ counters 6 12)
    × (counters_after (counters 5 9) (dosed 0 false) ≡ counters 6 9)
    × (counters_after (counters 999998 999999998) (dosed 1 true) ≡ counters 999999 999999999)
    × (counters_after (counters 999999 999999999) (dosed 1 true) ≡ counters 0 0)
    × (counters_after (counters 999999 999999998) (dosed 3 false) ≡ counters 0 1)
unfolding counters_after counted_of
counted = (refl, refl, refl, refl, refl, refl)

-- the dose record says how Settle ended, and of which product it was
pub recorded :
    (records_of 7 (counters 5 9) None ≡ [])
    × (records_of 7 (counters 5 9) (dosed 3 false) ≡ record { count = 5; amount = 3; settled = 0; product = 7 } ∷ [])
    × (records_of 255 (counters 5 9) (dosed 3 true) ≡ record { count = 5; amount = 3; settled = 1; product = 255 } ∷ [])
unfolding records_of record_of pick
recorded = (refl, refl, refl)
