use mathlib.Core.Path.{refl, sym, ◌∙◌}
use Prim.Native.Nat.{◌<◌}
use native.Mathlib.Omega.{arith}
use native.Mathlib.Numerals.{add-one}
use Rattle.settings.specs.Table.{first_bad}
use Rattle.settings.proofs.Steps.{passed, named, ended, in-at, out_at}
use Rattle.settings.proofs.Settings.check.Goals as goal

pub loop-i-init : goal.loop-i-init
unfolding first_bad
loop-i-init c = refl

pub returns-then-value-range : goal.returns-then-value-range
returns-then-value-range c =
    let s = c.args.self in
    let i = c.loop-i.i in
    let below : i < 18 = omega arith in
    let v = c.values-values.ensures in
    let r = c.ranges-ranges.ensures in
    sym (c.loop-i.invariant ∙ named s i below (out_at s i below v r c.if-value-range.true))

pub loop-i-preserved : goal.loop-i-preserved
loop-i-preserved c =
    let i = c.loop-i.i in
    let h : i < 18 = omega arith in
    let s = c.args.self in
    rw add-one (c.loop-i.invariant ∙ passed s i h (in-at s i h c.values-values.ensures c.ranges-ranges.ensures c.if-value-range.false))

pub returns : goal.returns
returns c =
    sym (c.loop-i.invariant ∙ ended _ c.loop-i.i (omega arith))
