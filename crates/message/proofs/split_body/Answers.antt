use mathlib.Core.Path.{sym}
use borrow.Author.Tests.{lt-ltb, le-ltb, eq-eqb, ne_eqb}
use Rattle.laws.specs.Pick.{pick-t, pick_true, pick-false}
use Rattle.frame.specs.Frame.{extended}
use Rattle.frame.specs.Read.{too_short}
use Rattle.frame.specs.ReadLaws.{short-three}
use Rattle.message.specs.Message.{split_of, parts_of, form_of, address_length}
use Rattle.message.proofs.split_body.Goals as goal
use Rattle.message.proofs.split_body.Goals.{Else-body-lt6}

pub returns-then-body-lt3 : goal.returns-then-body-lt3
unfolding split_of
returns-then-body-lt3 c = sym (pick-t _ _ _ (short-three _ c.if-body-lt3.true))

-- an address
pub returns-then-body-ne0 : goal.returns-then-body-ne0
unfolding split_of parts_of form_of address_length too_short extended
returns-then-body-ne0 c = simp (ne_eqb _ _ c.if-body-ne0.true, pick-false, le-ltb _ _ c.if-body-lt3.false)

pub returns-then-body-lt6 : goal.returns-then-body-lt6
unfolding split_of too_short extended
returns-then-body-lt6 c = simp (eq-eqb _ _ c.if-body-ne0.false, pick_true, lt-ltb _ _ c.if-body-lt6.true)

-- a serial
pub returns : goal.returns
unfolding split_of parts_of form_of address_length too_short extended
returns c =
    let d = (goal.at.returns c).Else-body-lt6 in
    simp (eq-eqb _ _ d.if-body-ne0.false, pick_true, le-ltb _ _ d.if-body-lt6.false, pick-false, c.serial_of.ensures)
