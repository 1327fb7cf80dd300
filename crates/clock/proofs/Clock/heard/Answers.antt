use mathlib.Core.Path.{refl, sym, ap, subst, ◌∙◌}
use mathlib.Core.List.{[]}
use Rattle.laws.specs.Pick.{pick-f}
use Rattle.clock.specs.Clock.{note, heard_by}
use Rattle.clock.specs.Marking.{Writable, fitted, writes-none}
use Rattle.clock.specs.Keeps.{heard-passed}
use Rattle.clock.specs.declared.Clock.{Clock}
use Rattle.clock.proofs.Writing.{does-none, does, marks, uncounted}
use Rattle.clock.proofs.Clock.heard.Goals as goal

pub returns-then-out-lt-ENOUGH : goal.returns-then-out-lt-ENOUGH
returns-then-out-lt-ENOUGH c = does-none c.args.self c.requires c.if-out-lt-ENOUGH.true

pub returns-then-not-fits : goal.returns-then-not-fits
unfolding fitted
returns-then-not-fits c = does _ c.if-out-lt-ENOUGH.false (pick-f _ _ _ (sym c.fits.ensures ∙ c.if-not-fits.true)) c.requires (writes-none refl)

-- with room and a dose that can be written
pub dosed-requires : goal.dosed-requires
dosed-requires c = (c.requires, subst Writable c.in-Dosed.is (sym c.fits.ensures ∙ c.if-not-fits.false), c.if-out-lt-ENOUGH.false)

pub returns-in-Ticked : goal.returns-in-Ticked
unfolding heard_by
returns-in-Ticked c = marks _ _ c.requires c.if-out-lt-ENOUGH.false (sym c.fits.ensures ∙ c.if-not-fits.false) (ap (heard_by _) c.in-Ticked.is) c.ticked.ensures

pub returns-in-Dosed : goal.returns-in-Dosed
unfolding heard_by
returns-in-Dosed c = marks _ _ c.requires c.if-out-lt-ENOUGH.false (sym c.fits.ensures ∙ c.if-not-fits.false) (ap (heard_by _) c.in-Dosed.is) c.dosed.ensures

pub returns-in_default : goal.returns-in_default
returns-in_default c =
    marks _ _ c.requires c.if-out-lt-ENOUGH.false (sym c.fits.ensures ∙ c.if-not-fits.false) (heard-passed _ (uncounted _ c.in_default.not-Ticked c.in_default.not-Dosed))
    (writes-none (ap (λ (k : Clock). note k []) c.passed.ensures.next))
