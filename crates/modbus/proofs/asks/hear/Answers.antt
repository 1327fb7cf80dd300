use mathlib.Core.Path.{sym, ap, ◌∙◌}
use Prim.Native.Nat.{ℕ}
use Rattle.laws.specs.Pick.{so}
use Rattle.modbus.specs.Asks.{function_of, ask_by, heard_by}
use Rattle.modbus.specs.AsksLaws.{good-four, silent-length, silent-crc, silent-address, hears}
use Rattle.modbus.proofs.asks.hear.Goals as goal
use Rattle.modbus.proofs.asks.hear.Goals.{then-not-length_good-via-then-not-length_good, then-not-length_good-via-else-not-length_good+then-not-crc_good, then-not-length_good-via-else-not-length_good+else-not-crc_good+then-not-address_good}

pub crc_good-requires : goal.crc_good-requires
crc_good-requires c = good-four _ (so c.length_good.ensures c.if-not-length_good.false)

pub returns-then-not-length_good : goal.returns-then-not-length_good
returns-then-not-length_good c =
    sym (elim c.then-not-length_good.branch [
      | then-not-length_good-via-then-not-length_good w ↦ silent-length _ _ (so c.length_good.ensures w.if-not-length_good.true)
      | then-not-length_good-via-else-not-length_good+then-not-crc_good w ↦
          silent-crc _ _ (so c.length_good.ensures w.if-not-length_good.false) (so w.crc_good.ensures w.if-not-crc_good.true)
      | then-not-length_good-via-else-not-length_good+else-not-crc_good+then-not-address_good w ↦
          silent-address _ _ (so c.length_good.ensures w.if-not-length_good.false) (so w.crc_good.ensures w.if-not-crc_good.false) (so w.address_good.ensures w.if-not-address_good.true)
    ])

pub returns : goal.returns
unfolding function_of
returns c =
    let frame = c.args.frame.now in
    let ask = c.ask_by-ask.ensures ∙ ap (λ (f : ℕ). ask_by f frame) c.byte_at.ensures in
    rw c.byte_at-2.ensures at c.heard_by.ensures
    ∙ ap (heard_by _) ask
    ∙ sym (hears _ frame
    (so c.length_good.ensures c.if-not-length_good.false)
    (so c.crc_good.ensures c.if-not-crc_good.false)
    (so c.address_good.ensures c.if-not-address_good.false))
