use mathlib.Core.Path.{sym, ap₂, subst}
use Rattle.controller.specs.declared.Controller.{Controller}
use Rattle.clock.specs.declared.Clock.{Clock}
use Rattle.recorder.specs.Recording.{start_of, Carries}
use Rattle.recorder.specs.Keeps.{start-carries}
use Rattle.recorder.specs.declared.Recorder.{Recorder}
use Rattle.recorder.proofs.Recorder.start.Goals as goal

pub returns : goal.returns
unfolding start_of
returns c =
    let is = ap₂ {C = Recorder} (λ (b : Controller) (k : Clock). record { controller = b; clock = k }) c.fresh.ensures.is c.start.ensures.is in
    record { is = is; carries = subst Carries (sym is) start-carries }
