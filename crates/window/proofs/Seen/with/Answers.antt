-- Each field is a callee's answer.
use mathlib.Core.Path.{refl}
use borrow.Author.Rules.{rules}
use mir.Syntax.{w32}
use mir.Val.{SFits}
use mir.Facts.{to_z-of_z}
use Rattle.window.specs.Pass.{with_of}
use Rattle.window.proofs.Told.{lifted-bits, max-is, min-is}
use Rattle.window.proofs.Seen.with.Goals as goal

pub returns : goal.returns
unfolding with_of
returns c =
    let high-fits : SFits w32 c.max.result = search rules in
    let low-fits : SFits w32 c.min.result = search rules in
    let high_fits : SFits w32 c.args.self.high = search rules in
    let low_fits : SFits w32 c.args.self.low = search rules in
    rw (to_z-of_z high-fits, to_z-of_z low-fits, c.min.ensures.value, c.max.ensures.value, c.wrapping_add_signed.ensures, to_z-of_z high_fits, to_z-of_z low_fits, to_z-of_z c.ranges.x, max-is, min-is, lifted-bits c.args.self.sum c.args.x c.ranges.x) refl
