use Rattle.operands.specs.Bytes.{is_hex}
use Rattle.operands.proofs.is_hex.Goals as goal

pub returns : goal.returns
unfolding is_hex
returns c = rw c.is_digit.ensures
