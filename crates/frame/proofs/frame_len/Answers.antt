use mathlib.Core.Path.{ap}
use Prim.Native.Nat.{ℕ}
use native.Mathlib.Omega.{arith}
use lib.ListN.{length}
use Rattle.frame.specs.Frame.{sent_byte}
use Rattle.frame.specs.FrameLaws.{byte-most, sent-most, frame-length}
use Rattle.frame.proofs.frame_len.Goals as goal
use Rattle.frame.proofs.frame_len.Goals.{Start}

pub overflow_add-result : goal.overflow_add-result
overflow_add-result c =
    let start = (goal.at.overflow_add-result c).Start in
    omega (arith, sent-most start.args.body.now, byte-most start.args.c)

pub overflow_add-result-2 : goal.overflow_add-result-2
overflow_add-result-2 c =
    let start = (goal.at.overflow_add-result-2 c).Start in
    omega (arith, sent-most start.args.body.now, byte-most start.args.c)

pub returns : goal.returns
returns c =
    let start = (goal.at.returns c).Start in
    omega (arith, frame-length start.args.body.now, ap (λ (x : ℕ). length (sent_byte x)) start.requires.1)
