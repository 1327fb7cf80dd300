-- Where no sample is far the sum seen is the whole sum.
use Prim.Native.Nat.{◌<◌}
use borrow.Author.Rules.{rules}
use mir.Syntax.{w32, w64}
use mir.Val.{SFits}
use mir.Facts.{to_z-of_z, sfits_widen}
use Rattle.window.proofs.Told.{signed-is, told-sum}
use Rattle.window.proofs.whole.Goals as goal

pub returns-then-seen : goal.returns-then-seen
returns-then-seen c =
    let p = c.requires in
    let t = c.args.seen in
    let bits : t.sum < 4294967296 = search rules in
    let f : SFits w32 c.cast_signed.result = search rules in
    let wide : SFits w64 c.cast_signed.result = sfits_widen tt f in
    let high : SFits w32 t.high = search rules in
    let low : SFits w32 t.low = search rules in
    rw (to_z-of_z f, to_z-of_z wide, c.cast_signed.ensures, signed-is t.sum bits)
    (told-sum c.args.s.now t p.0 p.1 p.2 (rw (to_z-of_z high) at c.if-seen-lt-FAR.true) (rw (to_z-of_z low) at c.if-seen.true))
