use mathlib.Core.Path.{ap}
use mathlib.Core.List.{List}
use borrow.Author.Rules.{rules}
use Rattle.counters.specs.declared.Record.{Record}
use Rattle.controller.specs.Tick.{Told}
use Rattle.controller.proofs.Steps.{tells-so}
use Rattle.controller.proofs.tick.answer_of.Goals as goal

pub returns : goal.returns
returns c =
    let a = c.args in
    ap {B = Told} (λ (l : List Record). record { outputs = a.outputs; doses = l }) (tells-so a.product a.after a.dose c.map-dose.result (λ x y p. search rules) c.map-dose.ensures.cases)
