use native.Mathlib.Omega.{arith}
use Rattle.channels.specs.Channels.{outputs_of}
use Rattle.channels.proofs.Laws.{worth-most}
use Rattle.channels.proofs.outputs_of.Goals as goal

pub overflow_add-result : goal.overflow_add-result
overflow_add-result c = let g = c.args.g in omega (arith, worth-most g.one 1, worth-most g.two 2)

pub overflow_add-result-2 : goal.overflow_add-result-2
overflow_add-result-2 c =
    let g = c.args.g in
    omega (arith, worth-most g.one 1, worth-most g.two 2, worth-most g.three 4)

pub overflow_add-result-3 : goal.overflow_add-result-3
overflow_add-result-3 c =
    let a = c.args in
    omega (arith, worth-most a.g.one 1, worth-most a.g.two 2, worth-most a.g.three 4, worth-most a.four 8)

pub returns : goal.returns
unfolding outputs_of
returns c = simp (c.bit_of-alarm.ensures, c.bit_of-three.ensures, c.bit_of-two.ensures, c.bit_of-one.ensures)
