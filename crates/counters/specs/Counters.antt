-- The counters and the dose record (document 01, "One tick"; document 02, W4). Assumes nothing.
use Rattle.std.specs.Prelude.{Bool, List, [], ◌∷◌, ℕ, ◌+◌, ◌%◌, Option, Some, None}
use Rattle.laws.specs.Pick.{pick}
use Rattle.dosing.specs.declared.Dose.{Dose}
use Rattle.counters.specs.declared.Counters.{Counters}
use Rattle.counters.specs.declared.Record.{Record}

abbrev pub counters : ℕ → ℕ → Counters
counters count total = record { count = count; total = total }

-- A completed dose adds 1 to the count (0 follows 999,999) and its amount to the total (wraps after 999,999,999)
unfoldable pub counted_of : Counters → ℕ → Counters
counted_of n amount = counters ((n.count + 1) % 1000000) ((n.total + amount) % 1000000000)

unfoldable pub counters_after : Counters → Option Dose → Counters
counters_after n None = n
counters_after n (Some d) = counted_of n d.amount

-- the dose record (count after it, amount, 1 if Settle ended stable else 0), and the product code as its last field
unfoldable pub record_of : ℕ → Counters → ℕ → Bool → Record
record_of product after amount settled = record { count = after.count; amount = amount; settled = pick settled 1 0; product = product }

-- the dose record if one completed
unfoldable pub records_of : ℕ → Counters → Option Dose → List Record
records_of product after None = []
records_of product after (Some d) = record_of product after d.amount d.settled ∷ []
