-- One reading step a way through the match.
use mathlib.Core.Path.{◌∙◌}
use Rattle.laws.specs.Pick.{picks, pick_true}
use Rattle.frame.specs.Read.{step, grown}
use Rattle.frame.specs.Stands.{stands, fits}
use Rattle.frame.proofs.step.Goals as goal

-- Seek, FF
pub returns-then-b-eq255 : goal.returns-then-b-eq255
unfolding stands fits step
returns-then-b-eq255 c =
    record {
      reading = rw c.in-Seek.is (search picks);
      held = record { body-fits = tt; full = c.requires.full };
    }

-- Lead, FF
pub returns-then-b-eq255-2 : goal.returns-then-b-eq255-2
unfolding stands fits step
returns-then-b-eq255-2 c =
    record {
      reading = rw c.in-Lead.is (search picks);
      held = record { body-fits = tt; full = c.requires.full };
    }

-- Lead, FE
pub returns-then-b-eq254 : goal.returns-then-b-eq254
unfolding stands fits step
returns-then-b-eq254 c =
    record {
      reading = rw c.in-Lead.is (search picks);
      held = record { body-fits = tt; full = c.requires.full };
    }

-- Body, FF
pub returns-then-b-eq255-3 : goal.returns-then-b-eq255-3
unfolding stands fits step
returns-then-b-eq255-3 c =
    let e = c.in-Body.is in
    let pre = c.requires in
    record { reading = rw e (search picks); held = record { body-fits = rw e at pre.body-fits; full = pre.full } }

pub grow-requires-in-Body : goal.grow-requires-in-Body
unfolding fits
grow-requires-in-Body c =
    let pre = c.requires in
    (pre.full, rw c.in-Body.is at pre.body-fits)

-- Mark, FF
pub returns-then-b-eq255-4 : goal.returns-then-b-eq255-4
unfolding stands fits step
returns-then-b-eq255-4 c =
    let e = c.in-Mark.is in
    let pre = c.requires in
    record { reading = rw e (search picks); held = record { body-fits = rw e at pre.body-fits; full = pre.full } }

pub grow-requires-then-b-eq254-2 : goal.grow-requires-then-b-eq254-2
unfolding fits
grow-requires-then-b-eq254-2 c =
    let pre = c.requires in
    (pre.full, rw c.in-Mark.is at pre.body-fits)

-- Mark, FE
pub returns-then-b-eq254-2 : goal.returns-then-b-eq254-2
unfolding stands step
returns-then-b-eq254-2 c =
    let g = c.grow-then-b-eq254-2.ensures in
    record { reading = g.reading ∙ rw c.in-Mark.is (search picks); held = g.held }

-- Seek, another
pub returns-else-b-eq255 : goal.returns-else-b-eq255
unfolding stands step
returns-else-b-eq255 c =
    record { reading = rw c.in-Seek.is (search picks); held = c.requires }

-- Lead, another
pub returns-else-b-eq254 : goal.returns-else-b-eq254
unfolding stands step grown
returns-else-b-eq254 c =
    let g = c.grow.ensures in
    record { reading = g.reading ∙ rw (c.in-Lead.is, pick_true) (search picks); held = g.held }

-- Body, another
pub returns-else-b-eq255-3 : goal.returns-else-b-eq255-3
unfolding stands step
returns-else-b-eq255-3 c =
    let g = c.grow-in-Body.ensures in
    record { reading = g.reading ∙ rw c.in-Body.is (search picks); held = g.held }

-- Mark, another
pub returns-else-b-eq254-2 : goal.returns-else-b-eq254-2
unfolding stands step grown
returns-else-b-eq254-2 c =
    let g = c.grow-in-Mark.ensures in
    record { reading = g.reading ∙ rw (c.in-Mark.is, pick_true) (search picks); held = g.held }

-- Ended
pub returns-in-Ended : goal.returns-in-Ended
unfolding stands step
returns-in-Ended c = record { reading = rw c.in-Ended.is; held = c.requires }
