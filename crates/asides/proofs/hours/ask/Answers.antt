use mathlib.Core.Path.{sym, subst}
use Rattle.paper.specs.Answer.{done}
use Rattle.hourly.specs.declared.Hour.{Hour}
use Rattle.hourly.specs.Exact.{Numbered, ask-numbered}
use Rattle.hourly.specs.Says.{says_hour}
use Rattle.asides.proofs.hours.ask.Goals as goal
use Rattle.asides.proofs.hours.ask.Goals.{Start}

pub figures-requires : goal.figures-requires
figures-requires c =
    let start = (goal.at.figures-requires c).Start in
    subst (λ (h : Hour). Numbered (done (says_hour h))) c.in-Measured.is (subst Numbered (sym c.in-Ok.ensures) (ask-numbered _ start.args.bytes.now start.args.hour))
