use borrow.Author.Rules.{rules}
use mir.Syntax.{w32}
use mir.Val.{SFits}
use mir.Facts.{to_z-of_z}
use Rattle.scale.proofs.Laws.{outside-is}
use Rattle.scale.proofs.is_outside.Goals as goal

pub returns : goal.returns
returns c = let f : SFits w32 c.args.x.v = search rules in rw (c.unsigned_abs.ensures.value, to_z-of_z f) (outside-is c.args.x.v)
