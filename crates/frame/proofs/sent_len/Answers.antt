use mathlib.Core.Path.{◌≡◌, ap}
use mathlib.Core.List.{List, []}
use Prim.Native.Nat.{ℕ, ◌≤◌, ◌+◌}
use native.Mathlib.Omega.{arith}
use lib.ListN.{length, drop, get_or, drop_of_length-le}
use Rattle.frame.specs.Frame.{sent_byte, sent}
use Rattle.frame.specs.FrameLaws.{byte-most}
use Rattle.frame.proofs.Laws.{sent-step-length}
use Rattle.frame.proofs.sent_len.Goals as goal

pub overflow_add-n : goal.overflow_add-n
overflow_add-n c = omega (arith, byte-most (get_or c.args.body.now c.loop-b.b-index 0))

pub loop-b-preserved : goal.loop-b-preserved
loop-b-preserved c =
    let l = c.args.body.now in
    let i = c.loop-b.b-index in
    let h : length (sent (drop i l)) ≡ length (sent_byte (get_or l i 0)) + length (sent (drop (i + 1) l)) = sent-step-length l i (omega arith) in
    (omega arith, omega (arith, byte-most (get_or l i 0)))

pub returns : goal.returns
unfolding sent
returns c =
    let l = c.args.body.now in
    let all : length l ≤ c.loop-b.b-index = omega arith in
    let e : length (sent (drop c.loop-b.b-index l)) ≡ length (sent []) = ap (λ (r : List ℕ). length (sent r)) (drop_of_length-le l all) in
    omega arith
