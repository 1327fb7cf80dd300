use mathlib.Core.Path.{sym, ap, ◌∙◌}
use borrow.Author.Tests.{le-leb, lt-leb}
use Rattle.journal.specs.Line.{in_range, product_most, within, most_of_d}
use Rattle.clock.specs.Clock.{dose_in}
use Rattle.clock.specs.Marking.{fits_line}
use Rattle.clock.proofs.Writing.{other_fits}
use Rattle.clock.proofs.fits.Goals as goal

pub returns-in_default : goal.returns-in_default
returns-in_default c = other_fits c.args.heard c.in_default.not-Dosed

pub returns-then-dose-gt-COUNT_MOST : goal.returns-then-dose-gt-COUNT_MOST
unfolding fits_line dose_in in_range product_most within most_of_d
returns-then-dose-gt-COUNT_MOST c = sym (ap fits_line c.in-Dosed.is ∙ rw (lt-leb _ _ c.if-dose-gt-COUNT_MOST.true))

pub returns-then-dose-gt-AMOUNT_MOST : goal.returns-then-dose-gt-AMOUNT_MOST
unfolding fits_line dose_in in_range product_most within most_of_d
returns-then-dose-gt-AMOUNT_MOST c = sym (ap fits_line c.in-Dosed.is ∙ rw (le-leb _ _ c.if-dose-gt-COUNT_MOST.false, lt-leb _ _ c.if-dose-gt-AMOUNT_MOST.true))

pub returns-then-dose-gt-SETTLED_MOST : goal.returns-then-dose-gt-SETTLED_MOST
unfolding fits_line dose_in in_range product_most within most_of_d
returns-then-dose-gt-SETTLED_MOST c = sym (ap fits_line c.in-Dosed.is ∙ rw (le-leb _ _ c.if-dose-gt-COUNT_MOST.false, le-leb _ _ c.if-dose-gt-AMOUNT_MOST.false, lt-leb _ _ c.if-dose-gt-SETTLED_MOST.true))

pub returns : goal.returns
unfolding fits_line dose_in in_range product_most within most_of_d
returns c = sym (ap fits_line c.in-Dosed.is ∙ rw (le-leb _ _ c.if-dose-gt-COUNT_MOST.false, le-leb _ _ c.if-dose-gt-AMOUNT_MOST.false, le-leb _ _ c.if-dose-gt-SETTLED_MOST.false))
