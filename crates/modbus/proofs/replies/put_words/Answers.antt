use mathlib.Core.Path.{refl, sym, ◌∙◌}
use native.Mathlib.Omega.{arith}
use lib.ListN.{drop_of_length-le}
use Rattle.modbus.specs.Replies.{word_bytes}
use Rattle.modbus.proofs.Laws.{words_step}
use Rattle.modbus.proofs.replies.put_words.Goals as goal

pub loop-w-init : goal.loop-w-init
loop-w-init c = (omega arith, refl)

pub loop-w-preserved : goal.loop-w-preserved
loop-w-preserved c =
    let at-loop = c.loop-w in
    (omega arith, sym (words_step at-loop.out c.args.words.now at-loop.to at-loop.w-index c.loop-w-test.true) ∙ at-loop.invariant.1)

pub returns : goal.returns
unfolding word_bytes
returns c = rw (drop_of_length-le c.args.words.now c.loop-w-test.false) at c.loop-w.invariant.1
