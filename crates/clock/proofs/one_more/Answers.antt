use mathlib.Core.Path.{ap, ◌∙◌}
use mathlib.Core.List.{append-nil}
use Prim.Native.Nat.{◌+◌}
use borrow.Author.Tests.{ne_eqb}
use Rattle.laws.specs.Pick.{pick-t, pick-f}
use Rattle.journal.specs.Journal.{lines_text}
use Rattle.clock.specs.Clock.{ticks_an_hour, note, with_hour, with_ticks, with_whole, closing, next_hour, one_more}
use Rattle.clock.specs.Keeps.{on-in-range}
use Rattle.clock.proofs.Writing.{adds_none, adds-text, more-next}
use Rattle.clock.proofs.one_more.Goals as goal

pub returns-then-k-ne-TICKS : goal.returns-then-k-ne-TICKS
unfolding one_more lines_text with_ticks
returns-then-k-ne-TICKS c = let a = c.args in adds_none a.at a.out.now (pick-f _ _ _ (ne_eqb (a.k.ticks + 1) ticks_an_hour c.if-k-ne-TICKS.true))

pub returns-then-not-k : goal.returns-then-not-k
unfolding closing lines_text next_hour with_whole with_ticks with_hour
returns-then-not-k c = let a = c.args in adds_none a.at a.out.now (more-next a.k c.if-k-ne-TICKS.false (pick-f _ _ _ c.if-not-k.true))

pub put_line-len-requires : goal.put_line-len-requires
put_line-len-requires c = (on-in-range c.args.k.hour c.requires.1, c.requires.2)

pub returns : goal.returns
unfolding closing lines_text next_hour with_whole with_ticks with_hour
returns c = adds-text (more-next c.args.k c.if-k-ne-TICKS.false (pick-t _ _ _ c.if-not-k.false) ∙ ap (note _) (append-nil _)) c.put_line-len.ensures
