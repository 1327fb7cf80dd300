use mathlib.Core.Path.{ap}
use native.Mathlib.Omega.{arith}
use native.Mathlib.Numerals.{add-one}
use lib.ListN.{length, length-set}
use Rattle.frame.specs.FrameLaws.{byte-least, sent-FF, sent-plain}
use Rattle.frame.proofs.put_byte.Goals as goal

pub bounds-out-at : goal.bounds-out-at
bounds-out-at c = omega (arith, byte-least c.args.b)

pub bounds-out-at-then-b-eq255 : goal.bounds-out-at-then-b-eq255
bounds-out-at-then-b-eq255 c = simp length-set (omega (arith, ap length (sent-FF _ c.if-b-eq255.true)))

pub returns-then-b-eq255 : goal.returns-then-b-eq255
returns-then-b-eq255 c =
    let e = sent-FF c.args.b c.if-b-eq255.true in
    record { after = rw e; left = rw (e, add-one, c.if-b-eq255.true) }

pub returns : goal.returns
returns c =
    let e = sent-plain c.args.b c.if-b-eq255.false in
    record { after = rw e; left = rw e }
