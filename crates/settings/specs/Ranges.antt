-- What a good set satisfies, range by range: the table read as facts. Assumes nothing.
use Rattle.std.specs.Prelude.{◌≤◌}
use Rattle.settings.specs.Table.{capacity_most, filter_most, product_most, least_level, most_level}
use Rattle.settings.specs.declared.Settings.{Settings}

pub record Ranges (s : Settings) : Type 0 where
  pub algorithm : s.algorithm ≤ 3
  pub capacity : (1 ≤ s.capacity) × (s.capacity ≤ capacity_most)
  pub dose : (1 ≤ s.dose) × (s.dose ≤ s.capacity)
  pub pc : s.pc ≤ s.dose
  pub pf : s.pf ≤ s.pc
  pub level : (least_level s ≤ s.level) × (s.level ≤ most_level s)
  pub p7 : (4 ≤ s.p7) × (s.p7 ≤ filter_most)
  pub p8 : (s.p7 ≤ s.p8) × (s.p8 ≤ filter_most)
  pub p9 : (1 ≤ s.p9) × (s.p9 ≤ 63)
  pub p11 : s.p11 ≤ 1
  pub o : s.o ≤ 1
  pub in1 : s.in1 ≤ 1
  pub in2 : s.in2 ≤ 1
  pub in3 : s.in3 ≤ 1
  pub address : (1 ≤ s.address) × (s.address ≤ 127)
  pub serial : s.serial ≤ 16777215
  pub point : s.point ≤ 3
  pub product : s.product ≤ product_most
