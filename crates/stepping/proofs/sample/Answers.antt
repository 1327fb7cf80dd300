use Rattle.stepping.proofs.Laws.{samples-so}
use Rattle.stepping.proofs.sample.Goals as goal

pub returns : goal.returns
returns c =
    let a = c.args in
    samples-so a.set a.gates a.first _ a.held a.f a.s c.filter_of-n.ensures c.mean_lent-mean.ensures c.calm_by_mean-calm.ensures
