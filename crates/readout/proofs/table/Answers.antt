use mathlib.Core.Path.{◌∙◌}
use Rattle.readout.specs.Readout.{values_for}
use Rattle.readout.proofs.table.Goals as goal

pub returns : goal.returns
unfolding values_for
returns c = c.words.ensures ∙ rw (c.outputs_of.ensures, c.weight_words-2.ensures, c.weight_words.ensures)
