use Prim.Native.Nat.{◌<◌, ◌≤◌}
use native.Mathlib.Omega.{arith}
use native.Mathlib.Numerals.{add-one}
use borrow.Author.Tests.{lt-ltb, le-ltb}
use lib.ListN.{length, take, length-set}
use lib.Seq.{length-take-le, take-suc-set}
use Rattle.laws.specs.Pick.{pick-t, pick-f}
use Rattle.frame.specs.Read.{grown}
use Rattle.frame.specs.Stands.{stands, fits}
use Rattle.frame.proofs.grow.Goals as goal

pub returns-then-n-lt255 : goal.returns-then-n-lt255
unfolding stands fits grown
returns-then-n-lt255 c =
    let buf = c.args.buf.now in
    let n = c.args.n in
    let in-buf : n < length buf = omega arith in
    let h : length (take n buf) < 255 = rw (length-take-le n buf (omega arith)) (omega arith) in
    record {
      reading = rw (pick-t _ _ _ (lt-ltb _ _ h), add-one, take-suc-set);
      held = record { body-fits = omega arith; full = rw length-set c.requires.0 };
    }

pub returns : goal.returns
unfolding stands fits grown
returns c =
    let buf = c.args.buf.now in
    let n = c.args.n in
    let h : 255 ≤ length (take n buf) = rw (length-take-le n buf (omega arith)) (omega arith) in
    record { reading = rw (pick-f _ _ _ (le-ltb _ _ h)); held = record { body-fits = tt; full = c.requires.0 } }
