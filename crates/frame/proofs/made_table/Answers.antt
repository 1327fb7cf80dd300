-- The table is computed: its entries are what a zero byte leaves of each state.
use mathlib.Core.Path.{refl}
use Rattle.frame.specs.Check.{enter, enter_bits, enter_bit, fell_out}
use Rattle.frame.specs.Table.{entries}
use Rattle.frame.proofs.made_table.Goals as goal

pub returns : goal.returns
unfolding entries enter enter_bits enter_bit fell_out
returns c = refl
