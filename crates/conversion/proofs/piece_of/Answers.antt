use Rattle.std.proofs.Common.{sym, ◌∙◌}
use Rattle.laws.specs.Pick.{so}
use Rattle.conversion.proofs.Pieces.{new-ends, new-goes, old-kept, old-gone, piece-old, piece-new}
use Rattle.conversion.proofs.piece_of.Goals as goal

pub returns-then-tabs_after-le-OLD_FIELDS : goal.returns-then-tabs_after-le-OLD_FIELDS
returns-then-tabs_after-le-OLD_FIELDS c = sym (piece-old _ _ _ c.in-Old.is ∙ old-kept _ _ _ c.tabs_after.ensures c.if-tabs_after-le-OLD_FIELDS.true)

pub returns-else-tabs_after-le-OLD_FIELDS : goal.returns-else-tabs_after-le-OLD_FIELDS
returns-else-tabs_after-le-OLD_FIELDS c = sym (piece-old _ _ _ c.in-Old.is ∙ old-gone _ _ _ c.tabs_after.ensures c.if-tabs_after-le-OLD_FIELDS.false)

pub returns-then-ends_dose : goal.returns-then-ends_dose
returns-then-ends_dose c = sym (piece-new _ _ _ c.in-New.is ∙ new-ends _ _ (so c.ends_dose.ensures c.if-ends_dose.true))

pub returns-else-ends_dose : goal.returns-else-ends_dose
returns-else-ends_dose c = sym (piece-new _ _ _ c.in-New.is ∙ new-goes _ _ (so c.ends_dose.ensures c.if-ends_dose.false))
