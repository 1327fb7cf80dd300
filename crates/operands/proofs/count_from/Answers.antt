use mathlib.Core.Path.{ap, ◌∙◌}
use mathlib.Core.Bool.{Bool, ◌&&◌}
use Prim.Native.Nat.{◌+◌}
use native.Mathlib.Omega.{arith}
use lib.ListN.{length, get_or}
use Rattle.laws.specs.Pick.{so}
use Rattle.operands.specs.Bytes.{is_hex, carried, lead-end, lead-two, lead-none}
use Rattle.operands.proofs.count_from.Goals as goal

pub returns-then-not-is_hex : goal.returns-then-not-is_hex
unfolding carried
returns-then-not-is_hex c =
    let s = c.args.s.now in
    let h = c.loop-p in
    let first = so c.is_hex.ensures c.if-not-is_hex.true in
    omega (arith, h.invariant.2, lead-none s h.p c.loop-p-test.true (ap (λ (t : Bool). t && is_hex (get_or s (h.p + 1) 0)) first))

pub returns-then-not-is_hex-2 : goal.returns-then-not-is_hex-2
unfolding carried
returns-then-not-is_hex-2 c =
    let s = c.args.s.now in
    let h = c.loop-p in
    let first = so c.is_hex.ensures c.if-not-is_hex.false in
    let both = ap (λ (t : Bool). t && is_hex (get_or s (h.p + 1) 0)) first ∙ so c.is_hex-in-loop-p.ensures c.if-not-is_hex-2.true in
    omega (arith, h.invariant.2, lead-none s h.p c.loop-p-test.true both)

pub loop-p-preserved : goal.loop-p-preserved
loop-p-preserved c =
    let s = c.args.s.now in
    let h = c.loop-p in
    let first = so c.is_hex.ensures c.if-not-is_hex.false in
    let second = so c.is_hex-in-loop-p.ensures c.if-not-is_hex-2.false in
    (omega arith, omega arith, omega (arith, h.invariant.2, lead-two s h.p c.loop-p-test.true first second))

pub returns : goal.returns
unfolding carried
returns c = omega (arith, c.loop-p.invariant.2, ap length (lead-end c.args.s.now c.loop-p.p c.loop-p-test.false))
