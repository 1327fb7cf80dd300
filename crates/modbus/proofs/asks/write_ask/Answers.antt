use mathlib.Core.Path.{sym, ◌∙◌}
use native.Mathlib.Omega.{arith}
use Rattle.modbus.specs.AsksLaws.{unwritten, large, written}
use Rattle.modbus.proofs.asks.write_ask.Goals as goal

pub returns-then-register-ne-LINK : goal.returns-then-register-ne-LINK
returns-then-register-ne-LINK c =
    let a = c.args in
    c.exception_of.ensures ∙ sym (unwritten a.register a.value (λ e. omega arith))

pub returns-then-value-gt1 : goal.returns-then-value-gt1
returns-then-value-gt1 c =
    let a = c.args in
    c.exception_of-then-value-gt1.ensures ∙ sym (large a.register a.value (omega arith) (omega arith))

pub returns : goal.returns
returns c = sym (written _ _ (omega arith) (omega arith))
