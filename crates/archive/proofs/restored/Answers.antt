use mathlib.Core.Path.{◌≡◌}
use lib.ListN.{length}
use Rattle.archive.proofs.Printing.{prints-restored}
use borrow.Author.Rules.{rules}
use Rattle.archive.proofs.restored.Goals as goal

pub returns : goal.returns
returns c =
    let bytes = c.args.bytes.now in
    let size : length bytes ≡ 65537 = search rules in
    let p = c.restore-converted in
    prints-restored bytes p.new.out c.args.n c.min-size.result p.result c.shown.result size c.min-size.ensures c.shown.ensures p.ensures
