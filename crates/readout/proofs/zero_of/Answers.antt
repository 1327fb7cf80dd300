use mathlib.Core.Path.{◌≡◌, refl, ap, ◌∙◌}
use mathlib.Core.Bool.{true, false}
use borrow.Author.Tests.{eq-eqb, ne_eqb, le-leb, lt-leb}
use Rattle.std.specs.Prelude.{Ok, Err}
use Rattle.laws.specs.Pick.{pick}
use Rattle.dosing.specs.Rules.{units}
use Rattle.scale.specs.Scale.{as_window}
use Rattle.scale.specs.Laws.{as-filtered}
use Rattle.readout.specs.Readout.{zeroable, may_zero, zero_to, zeroing}
use Rattle.readout.proofs.Laws.{zeroable-by}
use Rattle.readout.proofs.zero_of.Goals as goal
use Rattle.readout.proofs.zero_of.Goals.{Joined-else-set-le1, else-set-le1-via-then-set-le1+then-not-holds_none+else-near_zero, else-set-le1-via-then-set-le1+else-not-holds_none, else-set-le1-via-else-set-le1}

pub returns-then-operation-ne-C0 : goal.returns-then-operation-ne-C0
unfolding zeroing may_zero zero_to pick
returns-then-operation-ne-C0 c = rw (ne_eqb _ _ c.if-operation-ne-C0.true)

pub returns-then-near_zero : goal.returns-then-near_zero
unfolding zeroing may_zero zero_to pick
returns-then-near_zero c =
    let a = c.args in
    let f = c.mean_lent-f.ensures ∙ ap units (as-filtered _ _ _) in
    let t : zeroable a.set (as_window a.samples.now a.held) ≡ true =
    zeroable-by c.args.set _ f c.holds_none.ensures c.near_zero.ensures
    ∙ rw (le-leb _ _ c.if-set-le1.true, c.if-not-holds_none.true, c.if-near_zero.true) in
    ap Ok f ∙ rw (eq-eqb _ _ c.if-operation-ne-C0.false, t)

-- one of the three tests failed
kept : (c : Joined-else-set-le1) → let a = c.args in zeroable a.set (as_window a.samples.now a.held) ≡ false
kept c =
    let f = c.mean_lent-f.ensures ∙ ap units (as-filtered _ _ _) in
    elim c.else-set-le1.branch [
      | else-set-le1-via-then-set-le1+then-not-holds_none+else-near_zero w ↦
          zeroable-by c.args.set _ f w.holds_none.ensures w.near_zero.ensures
          ∙ rw (le-leb _ _ w.if-set-le1.true, w.if-not-holds_none.true, w.if-near_zero.false)
      | else-set-le1-via-then-set-le1+else-not-holds_none w ↦
          zeroable-by c.args.set _ f w.holds_none.ensures refl ∙ rw (le-leb _ _ w.if-set-le1.true, w.if-not-holds_none.false)
      | else-set-le1-via-else-set-le1 w ↦ zeroable-by c.args.set _ f refl refl ∙ rw (lt-leb _ _ w.if-set-le1.false)
    ]

pub returns-else-set-le1 : goal.returns-else-set-le1
unfolding zeroing may_zero zero_to pick
returns-else-set-le1 c =
    let f = c.mean_lent-f.ensures ∙ ap units (as-filtered _ _ _) in
    ap Err f ∙ rw (eq-eqb _ _ c.if-operation-ne-C0.false, kept c)
