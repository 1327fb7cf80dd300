-- A set is good exactly where each of its settings is in its range, and what a good set tells the rest of the box. Assumes nothing.
use Rattle.std.specs.Prelude.{◌≡◌, ℕ, ◌+◌, ◌/◌, ◌≤◌}
use Rattle.std.proofs.Common.{arith}
use Rattle.laws.specs.Pick.{pick_all, picks}
use Rattle.paper.specs.Answer.{done}
use Rattle.settings.specs.Table.{capacity_most, table, first_bad, least_level, most_level, wc, wf}
use Rattle.settings.specs.Named.{good-all, all-good, all_join}
use Rattle.settings.specs.Ranges.{Ranges}
use Rattle.settings.specs.declared.Settings.{Settings}

-- what the table says, as facts
pub good-ranges : (s : Settings) → first_bad s ≡ done tt → Ranges s
unfolding first_bad table
good-ranges s h = let a = good-all 1 (table s) h in omega arith

-- and it says no more
pub ranges-good : (s : Settings) → Ranges s → first_bad s ≡ done tt
unfolding first_bad table
ranges-good s r = all-good 1 (table s) (all_join 8 (table s) (omega arith) (omega arith))

-- the bounds that hold in every good set
pub record GoodBounds (s : Settings) : Type 0 where
  pub capacity : s.capacity ≤ capacity_most
  pub dose : s.dose ≤ capacity_most
  pub pc : s.pc ≤ s.dose
  pub pf : s.pf ≤ s.dose
  pub least : 1 ≤ s.level
  pub most : s.level ≤ capacity_most
  -- Wc = D-Pc and Wf = D-Pf in whole numbers, nothing cut off at 0
  pub coarse : wc s + s.pc ≡ s.dose
  pub fine : wf s + s.pf ≡ s.dose
  pub order : wc s ≤ wf s

pub ranges-bounds : (s : Settings) → Ranges s → GoodBounds s
unfolding least_level most_level wc wf
ranges-bounds s r =
    let a : 1 ≤ least_level s = pick_all (λ (x : ℕ). 1 ≤ x) _ (omega arith) (omega arith) in
    let b : most_level s ≤ capacity_most = pick_all (λ (x : ℕ). x ≤ capacity_most) _ (omega arith) (omega arith) in
    omega arith

-- the level in AL0 and AL1
pub filling-level : (s : Settings) → Ranges s → s.algorithm ≤ 1 → (1 ≤ s.level) × (s.level ≤ s.capacity / 4)
unfolding least_level most_level
filling-level s r h =
    let a : least_level s ≡ 1 = search picks in
    let b : most_level s ≡ s.capacity / 4 = search picks in
    omega arith
