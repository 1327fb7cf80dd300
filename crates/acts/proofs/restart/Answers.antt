use Rattle.std.specs.Prelude.{Ok, Err}
use Rattle.acts.specs.Makes.{in_use}
use Rattle.acts.proofs.Making.{acts-restart}
use Rattle.acts.proofs.restart.Goals as goal

pub returns-in-Ok : goal.returns-in-Ok
unfolding in_use
returns-in-Ok c = acts-restart (Ok c.in-Ok.new) c.requires (rw c.in-Ok.is at c.restart.ensures)

pub returns-in-Err : goal.returns-in-Err
unfolding in_use
returns-in-Err c = acts-restart (Err c.in-Err.error) c.requires (rw c.in-Err.is at c.restart.ensures)
