use mathlib.Core.Path.{refl}
use borrow.Author.Rules.{rules}
use Rattle.setup.specs.Setup.{link_of}
use Rattle.controller.specs.Made.{made}
use Rattle.setup.proofs.link.Goals as goal

pub returns : goal.returns
unfolding link_of
returns c = made refl (search rules)
