use mathlib.Core.Path.{refl, sym, ap, ◌∙◌}
use Prim.Native.Nat.{ℕ, ◌+◌}
use lib.ListN.{drop, drop_of_length-le}
use Rattle.modbus.specs.Crc.{enter_all, crc}
use Rattle.modbus.proofs.Laws.{enter_all-step}
use Rattle.modbus.proofs.crc.crc16.Goals as goal

pub loop-b-init : goal.loop-b-init
unfolding crc
loop-b-init c = refl

pub loop-b-preserved : goal.loop-b-preserved
loop-b-preserved c =
    let bytes = c.args.bytes.now in
    let i = c.loop-b.b-index in
    ap (λ (s : ℕ). enter_all s (drop (i + 1) bytes)) c.enter-c.ensures ∙ sym (enter_all-step bytes i c.loop-b.c c.loop-b-test.true) ∙ c.loop-b.invariant

pub returns : goal.returns
unfolding enter_all
returns c = rw (drop_of_length-le c.args.bytes.now c.loop-b-test.false) at c.loop-b.invariant
