-- R17, then the reply or R8.
use Prim.Native.Nat.{◌≤◌}
use borrow.Author.Rules.{rules}
use Rattle.settings.specs.Good.{good-ranges}
use Rattle.panel.proofs.Panels.{silent, registers-so, too_short, replied-to}
use Rattle.panel.proofs.poll.Goals as goal

-- an address is a byte
pub overflow_cast-address : goal.overflow_cast-address
overflow_cast-address c =
    let small : c.args.c.set.address ≤ 127 = (good-ranges _ c.requires.set).address.1 in
    search rules

-- R17
pub returns-in_default : goal.returns-in_default
returns-in_default c =
    silent _ _ _ c.requires c.hear.result c.hear.ensures c.in_default.not-Ok c.linked.ensures.0 c.linked.ensures.1

-- R8
pub returns-in_default-serve : goal.returns-in_default-serve
returns-in_default-serve c =
    too_short _ _ _ c.requires c.hear.result c.hear.ensures c.in-Ok.asked c.in-Ok.is
    (registers-so _ c.requires c.table-words.ensures) c.serve.result c.serve.ensures
    c.in_default-serve.not-Ok c.linked-in_default-serve.ensures.0 c.linked-in_default-serve.ensures.1

pub returns : goal.returns
returns c =
    replied-to _ _ _ c.requires c.hear.result c.hear.ensures c.in-Ok.asked c.in-Ok.is
    (registers-so _ c.requires c.table-words.ensures) c.serve.result c.serve.ensures
    c.in-Ok-serve.is c.link_after-link.ensures c.linked-2.ensures.0 c.linked-2.ensures.1
