-- The table's columns as the code holds them: the values, and the ranges. Assumes nothing.
use Rattle.std.specs.Prelude.{ℕ}
use Rattle.settings.specs.Table.{Row}
use Rattle.settings.specs.declared.Range.{Range}

abbrev pub value_of : Row → ℕ
value_of r = r.value

abbrev pub bounds : ℕ → ℕ → Range
bounds a b = record { from = a; to = b }

abbrev pub range_of : Row → Range
range_of r = bounds r.least r.most
