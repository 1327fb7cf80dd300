-- Count and total over any series, from what each event keeps: those of the doses seen since the last accepted restart, and of all since the last accepted reset. The walk over a series stands in proofs/Walk. Assumes nothing.
use Rattle.std.specs.Prelude.{◌≡◌, refl, true, ◌&&◌, List, [], ◌∷◌, ◌++◌, ℕ, ◌+◌, ◌%◌, eqb, length}
use Rattle.std.proofs.Common.{ap₂, append_assoc, append-nil, arith, length-append, eqb-true}
use Rattle.laws.specs.Bools.{and_left, and_right}
use Rattle.hourly.specs.Hours.{total}
use Rattle.controller.specs.declared.Controller.{Controller}
use Rattle.counters.specs.declared.Counters.{Counters}
use Rattle.counters.specs.Counters.{counters, counted_of}
use Rattle.controller.specs.State.{restarted, fresh_of}
use Rattle.controller.specs.Sound.{Sound}
use Rattle.controller.specs.Keeps.{fresh-sound}
use Rattle.controller.specs.Outside.{Agrees}
use Rattle.counters.specs.Laws.{counted_in}
use Rattle.series.specs.Events.{Counting, goes_on, cleared, given, Outside, since_reset, nothing_seen, counted_from, handed_back}
use Rattle.series.specs.Kept.{InRange, counters_from}

-- they are the numbers stored and these doses
pub record Counts (n stored : Counters) (doses : List ℕ) : Type 0 where
  pub count : n.count ≡ (stored.count + length doses) % 1000000
  pub total : n.total ≡ (stored.total + total doses) % 1000000000

total-append : (as' bs : List ℕ) → total (as' ++ bs) ≡ total as' + total bs
unfolding total
total-append [] bs = omega arith
total-append (a ∷ as') bs = omega (arith, total-append as' bs)

pub one_more : (n stored : Counters) (doses : List ℕ) (amount : ℕ) → Counts n stored doses → Counts (counted_of n amount) stored (doses ++ amount ∷ [])
unfolding counted_of total
one_more n stored doses amount h =
    record {
      count = omega (arith, h.count, length-append doses (amount ∷ []));
      total = omega (arith, h.total, total-append doses (amount ∷ []));
    }

-- doses counted in are doses put at the end
pub counted-more : (n stored : Counters) (doses more : List ℕ) → Counts n stored doses → Counts (counted_in n more) stored (doses ++ more)
unfolding counted_in
counted-more n stored doses [] h = rw append-nil h
counted-more n stored doses (amount ∷ more) h =
    rw append_assoc at (counted-more (counted_of n amount) stored (doses ++ amount ∷ []) more (one_more n stored doses amount h))

-- ---- any series

-- count and total are the numbers stored and the doses seen since
abbrev pub Since : Counters → Outside → Type 0
Since n o = Counts n o.stored o.doses

-- the controller is sound, what its phase keeps is what was noted, and its counters count
pub record Accords (c : Controller) (o : Outside) : Type 0 where
  pub sound : Sound c
  pub agrees : Agrees c.phase o.notes
  pub counts : Since c.counters o

pub since-from : (k : Counting) (n : Counters) (o : Outside) → InRange (counters_from k n) → Since n o → Since (counters_from k n) (counted_from k o)
unfolding counters_from counted_from total
since-from goes_on n o h c = c
since-from cleared n o h c = record { count = refl; total = refl }
since-from (given count total) n o h c = record { count = omega arith; total = omega arith }

pub accords-fresh : Accords fresh_of nothing_seen
unfolding fresh_of restarted nothing_seen Agrees total
accords-fresh = record { sound = fresh-sound; agrees = tt; counts = record { count = refl; total = refl } }

-- ---- any series whose restarts hand back the counters as they were

same_numbers : (a b x y : ℕ) → (eqb a x && eqb b y) ≡ true → counters a b ≡ counters x y
same_numbers a b x y h = ap₂ (λ (m n : ℕ). counters m n) (eqb-true a x (and_left (eqb a x) _ h)) (eqb-true b y (and_right (eqb a x) _ h))

-- then the numbers given are the counters
pub given-same : (count total : ℕ) (n : Counters) → handed_back (given count total) n ≡ true → counters count total ≡ n
unfolding handed_back
given-same count total n h = same_numbers _ _ _ _ h

-- count and total are those of all doses since the last accepted reset
abbrev pub CountsAll : Counters → Outside → Type 0
CountsAll n o = Counts n (counters 0 0) (since_reset o)

pub all-fresh : CountsAll fresh_of.counters nothing_seen
unfolding fresh_of restarted nothing_seen total
all-fresh = record { count = refl; total = refl }
