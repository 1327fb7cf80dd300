use mathlib.Core.Path.{◌≡◌, ap, sym, ◌∙◌}
use native.Mathlib.Omega.{arith}
use lib.IntN.{nat_abs}
use mir.Syntax.{w32}
use mir.Val.{SFits}
use mir.Facts.{to_z-of_z}
use borrow.Author.Rules.{rules}
use Rattle.paper.specs.Answer.{done}
use Rattle.field.specs.RoundTrip.{small-writable, written_small}
use Rattle.field.proofs.Answers.{seven-digits, point-above}
use Rattle.field.proofs.write.Goals as goal
use Rattle.field.proofs.write.Goals.{After-size_of-size, then-size-gt999999-via-then-size-gt999999, then-size-gt999999-via-else-size-gt999999+then-weight-gt7}

sized : (c : After-size_of-size) → c.size_of-size.result ≡ nat_abs c.args.weight.value
sized c =
    let fits : SFits w32 c.args.weight.value = search rules in
    c.size_of-size.ensures ∙ ap nat_abs (to_z-of_z fits)

pub returns-then-size-gt999999 : goal.returns-then-size-gt999999
returns-then-size-gt999999 c =
    elim c.then-size-gt999999.branch [
      | then-size-gt999999-via-then-size-gt999999 w ↦
          seven-digits c.args.weight (omega (arith, w.if-size-gt999999.true, sized (goal.at.returns-then-size-gt999999 c).After-size_of-size))
      | then-size-gt999999-via-else-size-gt999999+then-weight-gt7 w ↦ point-above c.args.weight w.if-weight-gt7.true
    ]

pub field_of-requires : goal.field_of-requires
field_of-requires c =
    let e = sized (goal.at.field_of-requires c).After-size_of-size in
    (e, small-writable c.args.weight (omega (arith, e)) (omega arith))

pub returns : goal.returns
returns c =
    let e = sized (goal.at.returns c).After-size_of-size in
    ap done c.field_of.ensures ∙ sym (written_small c.args.weight (omega (arith, e)) (omega arith))
