-- A body that the reader found stands in its array and splits.
use Rattle.asking.proofs.Laws.{found-body, heard-parts, heard-unread}
use Rattle.asking.proofs.hear.Goals as goal

pub shared_ref_as_front-split_body : goal.shared_ref_as_front-split_body
shared_ref_as_front-split_body c = (found-body _ _ c.in-Ok.ensures).small

pub returns-in-Ok : goal.returns-in-Ok
returns-in-Ok c = heard-parts (found-body _ _ c.in-Ok.ensures) c.split_body.result c.split_body.ensures

-- R6
pub returns-in-Err-R6 : goal.returns-in-Err-R6
returns-in-Err-R6 c = heard-unread _ (rw c.in-Err-R6.field-0-is at c.in-Err-R6.ensures)

-- R9
pub returns-in-Err-R9 : goal.returns-in-Err-R9
returns-in-Err-R9 c = heard-unread _ (rw c.in-Err-R9.field-0-is at c.in-Err-R9.ensures)
