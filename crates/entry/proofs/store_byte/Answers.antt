use Rattle.entry.proofs.Storing.{stored}
use Rattle.entry.proofs.store_byte.Goals as goal

pub returns : goal.returns
returns c = stored c.requires c.put_byte.ensures
