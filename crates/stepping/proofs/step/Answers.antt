use Rattle.stepping.proofs.Laws.{steps-so}
use Rattle.stepping.proofs.step.Goals as goal

pub returns : goal.returns
returns c =
    let a = c.args in
    steps-so a.set a.began a.f a.z a.s a.gates a.n a.start c.see.ensures c.step-moved.ensures c.is_unstarted.ensures c.over_capacity-alarm.ensures c.calm_by_gates.ensures c.outputs_of.ensures c.counters_after.ensures
