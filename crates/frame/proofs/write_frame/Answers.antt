use mathlib.Core.Path.{◌≡◌, ◌∙◌}
use mathlib.Core.List.{[]}
use Prim.Native.Nat.{◌≤◌, ◌<◌}
use native.Mathlib.Omega.{arith}
use lib.ListN.{length}
use borrow.Author.Tests.{le-leb, lt-leb}
use Rattle.laws.specs.Pick.{pick-t, pick-f, so}
use Rattle.laws.specs.Over.{sets_over}
use Rattle.paper.specs.Answer.{refused, in_room}
use Rattle.paper.specs.Numbers.{R8}
use Rattle.frame.specs.Frame.{frame, write_of}
use Rattle.frame.specs.FrameLaws.{framable-is}
use Rattle.paper.specs.AnswerLaws.{fills-refused, fills-done}
use Rattle.frame.proofs.write_frame.Goals as goal
use Rattle.frame.proofs.write_frame.Goals.{Then-out-n}

pub returns-then-not-framable : goal.returns-then-not-framable
unfolding write_of
returns-then-not-framable c = fills-refused (pick-f _ _ _ (so c.framable.ensures c.if-not-framable.true)) _

pub frame_len-n-requires : goal.frame_len-n-requires
frame_len-n-requires c =
    let f = so c.framable.ensures c.if-not-framable.false in
    ((framable-is _ f).most, c.check_byte-c.ensures)

too_long : (c : Then-out-n) → write_of c.args.body.now (length c.args.out.now) ≡ refused R8 []
unfolding write_of in_room
too_long c =
    let f = so c.framable.ensures c.if-not-framable.false in
    let h : length c.args.out.now < length (frame c.args.body.now) = omega (arith, c.frame_len-n.ensures) in
    pick-t _ _ _ f ∙ pick-f _ _ _ (lt-leb _ _ h)

pub returns-then-out-n : goal.returns-then-out-n
returns-then-out-n c = fills-refused (too_long (goal.at.returns-then-out-n c).Then-out-n) _

pub returns : goal.returns
unfolding write_of in_room
returns c =
    let len = c.frame_len-n.ensures in
    let f = so c.framable.ensures c.if-not-framable.false in
    let h : length (frame c.args.body.now) ≤ length c.args.out.now = omega (arith, len) in
    fills-done (pick-t _ _ _ f ∙ pick-t _ _ _ (le-leb _ _ h)) len (c.put_frame.ensures ∙ sets_over _ _ h)
