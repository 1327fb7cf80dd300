use Rattle.std.proofs.Common.{ap, length}
use Rattle.conversion.proofs.piece_len.Goals as goal

pub returns-in-Gone : goal.returns-in-Gone
returns-in-Gone c = ap length c.in-Gone.ensures

pub returns-in-Kept : goal.returns-in-Kept
returns-in-Kept c = ap length c.in-Kept.ensures

pub returns-in-Ended : goal.returns-in-Ended
returns-in-Ended c = ap length c.in-Ended.ensures
