-- The counters stay within their greatest values, and a dose record can always be written as a line. Assumes nothing.
use Rattle.std.specs.Prelude.{◌≡◌, refl, Bool, List, [], ◌∷◌, ℕ, ◌≤◌, Option, Some, None}
use Rattle.std.proofs.Common.{arith}
use Rattle.laws.specs.Pick.{pick_all}
use Rattle.dosing.specs.Rules.{dosed}
use Rattle.dosing.specs.declared.Dose.{Dose}
use Rattle.counters.specs.Counters.{counted_of, counters_after, record_of, records_of}
use Rattle.counters.specs.declared.Counters.{Counters}
use Rattle.counters.specs.declared.Record.{Record}

-- count at most 999,999, total at most 999,999,999
pub record Storable (n : Counters) : Type 0 where
  pub count : n.count ≤ 999999
  pub total : n.total ≤ 999999999

counted-storable : (n : Counters) (amount : ℕ) → Storable (counted_of n amount)
unfolding counted_of
counted-storable n amount = record { count = omega arith; total = omega arith }

pub after-storable : (n : Counters) (d : Option Dose) → Storable n → Storable (counters_after n d)
unfolding counters_after
after-storable n None s = s
after-storable n (Some d) s = counted-storable n d.amount

-- count 0..999,999, amount 0..1,800,000, settled 0 or 1, product 0..255: the ranges of a D line
pub record Recordable (r : Record) : Type 0 where
  pub count : r.count ≤ 999999
  pub amount : r.amount ≤ 1800000
  pub settled : r.settled ≤ 1
  pub product : r.product ≤ 255

abbrev pub AllRecordable : List Record → Type 0
AllRecordable [] = Unit {0}
AllRecordable (r ∷ rs) = Recordable r × AllRecordable rs

record-recordable : (product : ℕ) (n : Counters) (amount : ℕ) (settled : Bool) → product ≤ 255 → n.count ≤ 999999 → amount ≤ 1800000 → Recordable (record_of product n amount settled)
unfolding record_of
record-recordable product n amount settled code h most =
    record { count = h; amount = most; settled = pick_all (λ (k : ℕ). k ≤ 1) settled (omega arith) (omega arith); product = code }

pub records-recordable : (product : ℕ) (n : Counters) (d : Option Dose) → product ≤ 255 → n.count ≤ 999999 → ((a : ℕ) (settled : Bool) → d ≡ dosed a settled → a ≤ 1800000) → AllRecordable (records_of product n d)
unfolding records_of
records-recordable product n None code h most = tt
records-recordable product n (Some d) code h most = (record-recordable product n d.amount d.settled code h (most d.amount d.settled refl), tt)

-- ---- doses counted in and told of

-- amounts counted in, one after another
unfoldable pub counted_in : Counters → List ℕ → Counters
counted_in n [] = n
counted_in n (amount ∷ more) = counted_in (counted_of n amount) more

-- the records tell of these amounts, each with the count after it
unfoldable pub Tells : Counters → List ℕ → List Record → Type 0
Tells n [] [] = Unit {0}
Tells n [] (r ∷ rs) = ⊥
Tells n (amount ∷ more) [] = ⊥
Tells n (amount ∷ more) (r ∷ rs) = (r.amount ≡ amount) × (r.count ≡ (counted_of n amount).count) × Tells (counted_of n amount) more rs

-- the amounts of the doses that a step hands on: one or none
unfoldable pub amounts_in : Option Dose → List ℕ
amounts_in None = []
amounts_in (Some d) = d.amount ∷ []

-- a completed dose is counted in on top of those before it
pub counts-in : (n : Counters) (d : Option Dose) → counters_after n d ≡ counted_in n (amounts_in d)
unfolding counters_after counted_in amounts_in
counts-in n None = refl
counts-in n (Some d) = refl

-- and its record tells of it
pub tells-one : (product : ℕ) (n : Counters) (d : Option Dose) → Tells n (amounts_in d) (records_of product (counters_after n d) d)
unfolding counters_after records_of record_of amounts_in Tells
tells-one product n None = tt
tells-one product n (Some d) = (refl, refl, tt)

-- all records are of a product
unfoldable pub AllOf : ℕ → List Record → Type 0
AllOf product [] = Unit {0}
AllOf product (r ∷ rs) = (r.product ≡ product) × AllOf product rs

-- what a dose is told of as is of the product that it was completed for
pub of-product : (product : ℕ) (n : Counters) (d : Option Dose) → AllOf product (records_of product n d)
unfolding records_of record_of AllOf
of-product product n None = tt
of-product product n (Some d) = (refl, tt)
