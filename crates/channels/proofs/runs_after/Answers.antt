use mathlib.Core.Path.{◌≡◌}
use mathlib.Core.Bool.{false}
use borrow.Author.Tests.{ne_eqb}
use Rattle.laws.specs.Pick.{picks, pick-false}
use Rattle.channels.specs.Channels.{no_runs, input, run_after, runs_after}
use Rattle.channels.proofs.Laws.{all-zero, none-holds, matched}
use Rattle.channels.proofs.runs_after.Goals as goal

pub returns-then-set-eq0 : goal.returns-then-set-eq0
unfolding runs_after
returns-then-set-eq0 c = search picks

pub returns-then-not-one-two : goal.returns-then-not-one-two
unfolding runs_after run_after input
returns-then-not-one-two c =
    let none : (c.mismatch-one.result ≡ false) × (c.mismatch-two.result ≡ false) × (c.mismatch-three.result ≡ false) = none-holds _ _ _ c.if-not-one-two.true in
    let z = c.default.ensures in
    let fresh : c.default.result ≡ no_runs = all-zero z.0 z.1.0 z.1.1 in
    rw fresh (simp (
      matched _ c.mismatch-one.ensures c.has_bit.ensures none.0,
      matched _ c.mismatch-two.ensures c.has_bit-2.ensures none.1,
      matched _ c.mismatch-three.ensures c.has_bit-3.ensures none.2,
      ne_eqb _ _ c.if-set-eq0.false,
      pick-false,
    ))

pub returns : goal.returns
unfolding runs_after run_after input
returns c =
    simp (
      c.run_after-3.ensures,
      c.run_after-2.ensures,
      c.run_after.ensures,
      c.mismatch-three.ensures,
      c.has_bit-3.ensures,
      c.mismatch-two.ensures,
      c.has_bit-2.ensures,
      c.mismatch-one.ensures,
      c.has_bit.ensures,
      ne_eqb _ _ c.if-set-eq0.false,
      pick-false,
    )
