use mathlib.Core.Path.{refl, sym, ap, ◌∙◌}
use Prim.Native.Nat.{◌+◌, ◌-◌}
use native.Mathlib.Omega.{arith}
use Rattle.modbus.specs.Crc.{shifts, enter}
use Rattle.modbus.proofs.Laws.{shifts-step, shifts-end}
use Rattle.modbus.proofs.crc.enter.Goals as goal

pub loop-init : goal.loop-init
unfolding enter
loop-init c = refl

pub loop-preserved : goal.loop-preserved
loop-preserved c =
    let k = c.loop.counter in
    ap (shifts (8 - (k + 1))) c.shift-s.ensures ∙ sym (shifts-step k c.loop.s (omega arith)) ∙ c.loop.invariant

pub returns : goal.returns
returns c = sym (shifts-end c.loop.counter c.loop.s (omega arith)) ∙ c.loop.invariant
