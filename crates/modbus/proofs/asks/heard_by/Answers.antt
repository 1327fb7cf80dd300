use mathlib.Core.Path.{sym, ap, ◌∙◌}
use Rattle.laws.specs.Pick.{pick-t, pick-f}
use Rattle.modbus.specs.Asks.{heard_by, heard_by_all}
use Rattle.modbus.specs.Says.{asks_of}
use Rattle.modbus.specs.declared.Ask.{Ask}
use Rattle.modbus.proofs.Laws.{not-link}
use Rattle.modbus.proofs.asks.heard_by.Goals as goal

pub returns-then-not-everyone : goal.returns-then-not-everyone
unfolding heard_by
returns-then-not-everyone c = sym (pick-f _ _ _ c.if-not-everyone.true)

pub returns-in_default : goal.returns-in_default
unfolding heard_by
returns-in_default c = sym (pick-t _ _ _ c.if-not-everyone.false ∙ not-link c.args.ask c.in_default.not-Link)

pub returns : goal.returns
unfolding heard_by heard_by_all
returns c =
    sym (pick-t _ _ _ c.if-not-everyone.false ∙ ap (λ (a : Ask). heard_by_all (asks_of a)) c.in-Link.is)
