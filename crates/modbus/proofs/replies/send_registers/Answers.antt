use mathlib.Core.Path.{◌≡◌, sym, ap, ◌∙◌}
use mathlib.Core.List.{◌∷◌}
use Prim.Native.Nat.{◌+◌, ◌*◌}
use native.Mathlib.Omega.{arith}
use lib.ListN.{length, take, replicate, length-take}
use lib.Seq.{length-sets, length-take-le}
use Rattle.modbus.specs.Replies.{word_bytes, registers_body}
use Rattle.modbus.specs.RepliesLaws.{bytes-length}
use Rattle.modbus.proofs.Laws.{front}
use Rattle.modbus.proofs.replies.send_registers.Goals as goal
use Rattle.modbus.proofs.replies.send_registers.Goals.{After-put_words}

-- the reply stands in the first bytes of the array
held : (c : After-put_words) → take (2 * length c.args.words.now + 3) c.put_words.new.out
    ≡ registers_body c.args.address c.args.words.now
unfolding registers_body
held c =
    let words = c.args.words.now in
    let body = c.args.address ∷ 3 ∷ 2 * length words ∷ word_bytes words in
    let size : length body ≡ 2 * length words + 3 = omega (arith, bytes-length words) in
    ap (take (2 * length words + 3)) c.put_words.ensures ∙ front (replicate 25 0) body (2 * length words + 3) size (omega arith)

full : (c : After-put_words) → length c.put_words.new.out ≡ 25
full c = ap length c.put_words.ensures ∙ length-sets _ 3 (word_bytes c.args.words.now)

pub slice_bounds-send-end : goal.slice_bounds-send-end
slice_bounds-send-end c = sym (length-take-le _ _ (omega (arith, full (goal.at.slice_bounds-send-end c).After-put_words)))

pub send-requires : goal.send-requires
send-requires c =
    let words = c.args.words.now in
    omega (arith, length-take (2 * length words + 3) c.put_words.new.out, full (goal.at.send-requires c).After-put_words)

pub returns : goal.returns
returns c = rw (held (goal.at.returns c).After-put_words) at c.send.ensures
