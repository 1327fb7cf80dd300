use mathlib.Core.Path.{sym, ◌∙◌}
use native.Mathlib.Omega.{arith}
use Rattle.modbus.specs.AsksLaws.{few, many, beyond, inside}
use Rattle.modbus.proofs.asks.read_ask.Goals as goal
use Rattle.modbus.proofs.asks.read_ask.Goals.{then-quantity-lt1-via-then-quantity-lt1, then-quantity-lt1-via-else-quantity-lt1+then-quantity-gt125}

pub returns-then-quantity-lt1 : goal.returns-then-quantity-lt1
returns-then-quantity-lt1 c =
    c.exception_of.ensures ∙ sym (elim c.then-quantity-lt1.branch [
      | then-quantity-lt1-via-then-quantity-lt1 w ↦ few c.args.start c.args.quantity (omega arith)
      | then-quantity-lt1-via-else-quantity-lt1+then-quantity-gt125 w ↦ many c.args.start c.args.quantity (omega arith) (omega arith)
    ])

pub returns-then-start-quantity-gt-REGISTERS : goal.returns-then-start-quantity-gt-REGISTERS
returns-then-start-quantity-gt-REGISTERS c =
    let a = c.args in
    c.exception_of-then-start-quantity-gt-REGISTERS.ensures ∙ sym (beyond a.start a.quantity (omega arith) (omega arith) (omega arith))

pub returns : goal.returns
returns c = sym (inside _ _ (omega arith) (omega arith) (omega arith))
