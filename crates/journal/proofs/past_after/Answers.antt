use Rattle.journal.specs.Journal.{past_after}
use Rattle.journal.proofs.past_after.Goals as goal

pub returns : goal.returns
unfolding past_after
returns c = simp (c.first_hour.ensures, c.closes_hour.ensures, c.hour_in-hour.ensures)
