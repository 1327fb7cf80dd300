-- No hole in the dose numbers comes from the box itself: the counts of the dose records of a series follow each other. The walk over a series stands in proofs/Holes. Assumes nothing.
use Rattle.std.specs.Prelude.{◌≡◌, true, List, [], ◌∷◌, ◌++◌, map, ℕ, ◌+◌, ◌%◌, ◌≤◌}
use Rattle.std.proofs.Common.{arith}
use Rattle.holes.specs.Holes.{follows}
use Rattle.holes.specs.HoleLaws.{follow_on, counted-follows}
use Rattle.counters.specs.declared.Counters.{Counters}
use Rattle.counters.specs.declared.Record.{Record}
use Rattle.counters.specs.Counters.{counted_of}
use Rattle.counters.specs.Laws.{counted_in, Tells}

-- the counts of dose records
abbrev pub counts_of : List Record → List ℕ
counts_of rs = map (λ r. r.count) rs

-- ---- the next dose

-- where a dose comes next, its count follows
abbrev pub Next : ℕ → Counters → Type 0
Next before n = follows before ((n.count + 1) % 1000000) ≡ true

pub next-count : (n : Counters) → n.count ≤ 999999 → Next n.count n
next-count n h = counted-follows n.count h

counted-range : (n : Counters) (amount : ℕ) → (counted_of n amount).count ≤ 999999
unfolding counted_of
counted-range n amount = omega arith

-- and so the counts of the records told of, and of those after them
pub told-follow : (before : ℕ) (n : Counters) (amounts : List ℕ) (rs : List Record) (more : List ℕ)
    → Tells n amounts rs → Next before n → ((last : ℕ) → Next last (counted_in n amounts) → follow_on last more ≡ true)
    → follow_on before (counts_of rs ++ more) ≡ true
unfolding Tells counted_in counted_of follow_on
told-follow before n [] [] more t h go = go before h
told-follow before n [] (r ∷ rs) more t h go = absurd t
told-follow before n (amount ∷ amounts) [] more t h go = absurd t
told-follow before n (amount ∷ amounts) (r ∷ rs) more t h go =
    let next = counted_of n amount in
    rw (t.1, h) (told-follow next.count next amounts rs more t.2 (next-count next (counted-range n amount)) go)
