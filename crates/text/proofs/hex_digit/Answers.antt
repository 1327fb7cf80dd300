use mathlib.Core.Path.{sym}
use Rattle.laws.specs.DecimalLaws.{glyph-low, glyph-high}
use Rattle.text.proofs.hex_digit.Goals as goal

pub returns-then-d-lt10 : goal.returns-then-d-lt10
returns-then-d-lt10 c = sym (glyph-low _ c.if-d-lt10.true)

pub returns-else-d-lt10 : goal.returns-else-d-lt10
returns-else-d-lt10 c = sym (glyph-high _ c.if-d-lt10.false)
