use borrow.Author.Tests.{eq-eqb, ne_eqb}
use Rattle.journal.specs.Line.{is_version}
use Rattle.journal.proofs.is_version.Goals as goal

pub returns-then-bytes-eq-VERSION_LEN : goal.returns-then-bytes-eq-VERSION_LEN
unfolding is_version
returns-then-bytes-eq-VERSION_LEN c = rw (eq-eqb _ _ c.if-bytes-eq-VERSION_LEN.true, c.has_version.ensures)

pub returns-else-bytes-eq-VERSION_LEN : goal.returns-else-bytes-eq-VERSION_LEN
unfolding is_version
returns-else-bytes-eq-VERSION_LEN c = rw (ne_eqb _ _ c.if-bytes-eq-VERSION_LEN.false)
