use mathlib.Core.Path.{sym, ◌∙◌}
use Prim.Native.Nat.{◌+◌, ◌≤◌}
use native.Mathlib.Omega.{arith}
use lib.ListN.{length}
use Rattle.laws.specs.Over.{over, sets_over}
use Rattle.paper.specs.AnswerLaws.{fills-refused, fills-done}
use Rattle.modbus.specs.Crc.{sealed}
use Rattle.modbus.specs.CrcLaws.{sealed-length}
use Rattle.modbus.proofs.Laws.{stores, no_room, has_room}
use Rattle.modbus.proofs.replies.send.Goals as goal
use Rattle.modbus.proofs.replies.send.Goals.{Start}

pub returns-then-out-n : goal.returns-then-out-n
returns-then-out-n c =
    let start = (goal.at.returns-then-out-n c).Start in
    fills-refused (no_room (length start.args.out.now) start.args.body.now (omega arith)) _

pub returns : goal.returns
unfolding over
returns c =
    let out = c.args.out.now in
    let body = c.args.body.now in
    let room : length body + 2 ≤ length out = c.if-out-n.false in
    fills-done (has_room (length out) body room) (sym (sealed-length body))
    (stores out body _ _ (rw c.copy_from_slice.ensures.after (sym (sets_over out body (omega arith)))) c.crc16-c.ensures ∙ sets_over out (sealed body) (omega (arith, sealed-length body)))
