use mathlib.Core.Path.{◌≡◌, sym, ap, ap₂, ◌∙◌}
use Prim.Native.Nat.{ℕ, ◌+◌, ◌-◌, min}
use lib.ListN.{length, take, drop}
use borrow.Author.Rules.{rules}
use Rattle.modbus.specs.Replies.{reply_body, reply_of}
use Rattle.modbus.proofs.Laws.{asked-part}
use Rattle.modbus.proofs.replies.reply.Goals as goal

pub returns-in-Registers : goal.returns-in-Registers
unfolding reply_of reply_body
returns-in-Registers c =
    let words = c.args.words in
    let size : length words ≡ 11 = search rules in
    let from = c.min-from in
    let to = c.min-to in
    let first = c.in-Registers.start in
    let quantity = c.in-Registers.quantity in
    let part : take (to.result - from.result) (drop from.result words) ≡ take quantity (drop first words) =
    ap₂ (λ (a b : ℕ). take (b - a) (drop a words)) (from.ensures ∙ ap (min first) (sym size)) (to.ensures ∙ ap (min (first + quantity)) (sym size))
    ∙ asked-part words first quantity in
    rw c.in-Registers.is (rw part at c.send_registers.ensures)

pub returns-in-Link : goal.returns-in-Link
unfolding reply_of reply_body
returns-in-Link c = rw c.in-Link.is c.send_link.ensures

pub returns-in-Exception : goal.returns-in-Exception
unfolding reply_of reply_body
returns-in-Exception c = rw c.in-Exception.is c.send_exception.ensures
