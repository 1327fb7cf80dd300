-- The dose records that the ticks of a series answer are the doses seen, each with the count after it, and each can be written to a journal. The walk over a series stands in proofs/Records. Assumes nothing.
use Rattle.std.specs.Prelude.{◌≡◌, refl, List, [], ◌∷◌, ◌++◌, map, ℕ, ◌+◌, ◌%◌, length}
use Rattle.std.proofs.Common.{sym, ap, ap₂, ◌∙◌, append_assoc}
use Rattle.controller.specs.declared.Controller.{Controller}
use Rattle.counters.specs.declared.Counters.{Counters}
use Rattle.counters.specs.declared.Record.{Record}
use Rattle.counters.specs.Counters.{counted_of}
use Rattle.counters.specs.Laws.{AllRecordable, Tells}
use Rattle.series.specs.Events.{Event, event_of, run, sight_of, counting_at, Outside, counted_from, seen_after, records_at, records}
use Rattle.series.specs.Walk.{Counts, one_more}

-- a count and an amount
pub record Numbered : Type 0 where
  pub count : ℕ
  pub amount : ℕ

-- amounts numbered on from a stored count and those before: 0 follows 999,999
unfoldable pub numbered_on : ℕ → List ℕ → List ℕ → List Numbered
numbered_on stored before [] = []
numbered_on stored before (amount ∷ more) =
    record { count = (stored + length (before ++ amount ∷ [])) % 1000000; amount = amount } ∷ numbered_on stored (before ++ amount ∷ []) more

-- the doses seen at an event, numbered on from the count stored and those since
unfoldable pub numbered_at : Controller → Event → Outside → List Numbered
numbered_at c e o =
    let from = counted_from (counting_at c e) o in
    numbered_on from.stored.count from.doses (sight_of c e o.notes).doses

-- the doses seen in a series, in order
unfoldable pub numbered_in : Controller → Outside → List Event → List Numbered
numbered_in c o [] = []
numbered_in c o (e ∷ es) = numbered_at c e o ++ numbered_in (event_of c e) (seen_after c e o) es

-- what a record says of its dose's number
abbrev pub number_of : Record → Numbered
number_of r = record { count = r.count; amount = r.amount }

-- ---- one event, and a series

pub numbered-tells : (n stored : Counters) (before amounts : List ℕ) (rs : List Record) → Counts n stored before → Tells n amounts rs → map number_of rs ≡ numbered_on stored.count before amounts
unfolding Tells numbered_on
numbered-tells n stored before [] [] h t = refl
numbered-tells n stored before [] (r ∷ rs) h t = absurd t
numbered-tells n stored before (amount ∷ more) [] h t = absurd t
numbered-tells n stored before (amount ∷ more) (r ∷ rs) h t =
    let next = one_more n stored before amount h in
    ap₂ (λ (one : Numbered) (rest : List Numbered). one ∷ rest)
    (ap₂ (λ (k a : ℕ). record { count = k; amount = a }) (t.1 ∙ next.count) t.0)
    (numbered-tells (counted_of n amount) stored (before ++ amount ∷ []) more rs next t.2)

-- the records of a series in two parts
pub records-append : (before es : List Event) (c : Controller) → records c (before ++ es) ≡ records c before ++ records (run c before) es
unfolding records run
records-append [] es c = refl
records-append (e ∷ before) es c =
    ap (λ (l : List Record). records_at c e ++ l) (records-append before es (event_of c e)) ∙ sym (append_assoc (records_at c e) _ _)

-- ---- the ranges of a D line

pub recordable-append : (rs more : List Record) → AllRecordable rs → AllRecordable more → AllRecordable (rs ++ more)
recordable-append [] more a b = b
recordable-append (r ∷ rs) more a b = (a.0, recordable-append rs more a.1 b)
