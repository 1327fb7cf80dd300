use mathlib.Core.Path.{sym, ◌∙◌}
use borrow.Author.Rules.{rules}
use mir.Syntax.{w32}
use mir.Val.{SFits}
use mir.Facts.{to_z-of_z}
use Rattle.scale.proofs.Laws.{six-ok, six-err, weighed-err, too-great, no-point, shows}
use Rattle.scale.proofs.shown.Goals as goal

pub returns-in_err-value : goal.returns-in_err-value
returns-in_err-value c =
    weighed-err _ c.from_residual.ensures.0
    ∙ too-great _ (six-err c.args.w.v c.six_digits.ensures (sym c.ok_or.ensures.value ∙ c.in_err-value.was))

pub returns-then-point-gt-POINT_MOST : goal.returns-then-point-gt-POINT_MOST
returns-then-point-gt-POINT_MOST c = no-point _ c.if-point-gt-POINT_MOST.true

pub returns : goal.returns
returns c =
    let f : SFits w32 c.in_ok-value.value = search rules in
    let p = six-ok c.args.w.v c.six_digits.ensures (sym c.ok_or.ensures.value ∙ c.in_ok-value.was) in
    rw (to_z-of_z f, p.1) (shows _ p.0 c.if-point-gt-POINT_MOST.false)
