use native.Mathlib.Omega.{arith}
use Rattle.clock.proofs.Writing.{line-put}
use Rattle.clock.proofs.put_line.Goals as goal

pub overflow_add-result : goal.overflow_add-result
overflow_add-result c =
    let p = line-put c.args.out.now c.write.new.out c.args.at c.args.line c.write.result c.requires.0 c.requires.1 c.size_of.ensures c.write.ensures in
    omega (arith, p.short, p.next)

pub returns : goal.returns
returns c = line-put c.args.out.now c.write.new.out c.args.at c.args.line c.write.result c.requires.0 c.requires.1 c.size_of.ensures c.write.ensures
