use mathlib.Core.Path.{◌≡◌, refl, sym, ap, ◌∙◌}
use mathlib.Core.Bool.{false}
use mathlib.Core.List.{List}
use Prim.Native.Nat.{ℕ, ◌+◌, ◌<◌}
use native.Mathlib.Omega.{arith}
use lib.ListN.{length, get_or, drop}
use Rattle.laws.specs.Pick.{so}
use Rattle.conversion.specs.Bytes.{tabs_after, is_other, line_after, other_from}
use Rattle.conversion.proofs.Bytewise.{other-more, other-here, other_none, tabs-most, line-most, line-least}
use Rattle.conversion.proofs.first_other.Invariants.{Sought}
use Rattle.conversion.proofs.first_other.Goals as goal

sought-more : (s : List ℕ) (line tabs i m t : ℕ) → Sought s line tabs i → i < length s → is_other tabs (get_or s i 0) ≡ false → m ≡ line_after line (get_or s i 0) → t ≡ tabs_after tabs (get_or s i 0) → Sought s m t (i + 1)
sought-more s line tabs i m t c h o e f =
    let b = get_or s i 0 in
    record {
      left =
          ap (λ (k : ℕ). other_from k t (drop (i + 1) s)) e
          ∙ ap (λ (u : ℕ). other_from (line_after line b) u (drop (i + 1) s)) f
          ∙ sym (other-more line tabs i s h o)
          ∙ c.left;
      few = omega (arith, c.few, tabs-most tabs b);
      lines = omega (arith, c.lines, line-most line b);
      least = omega (arith, c.least, line-least line b);
    }

pub loop-b-init : goal.loop-b-init
loop-b-init c = record { left = refl; few = omega arith; lines = omega arith; least = omega arith }

pub returns-then-is_other : goal.returns-then-is_other
returns-then-is_other c = record {
  line = sym (other-here _ _ _ _ c.loop-b-test.true (so c.is_other.ensures c.if-is_other.true)) ∙ c.loop-b.invariant.left;
  some = c.loop-b.invariant.least;
}

pub line_after-line-requires : goal.line_after-line-requires
line_after-line-requires c = omega (arith, c.loop-b.invariant.lines, c.loop-b-test.true, c.requires)

pub tabs_after-tabs-requires : goal.tabs_after-tabs-requires
tabs_after-tabs-requires c = omega (arith, c.loop-b.invariant.few, c.loop-b-test.true, c.requires)

pub loop-b-preserved : goal.loop-b-preserved
loop-b-preserved c = sought-more _ _ _ _ _ _ c.loop-b.invariant c.loop-b-test.true (so c.is_other.ensures c.if-is_other.false) c.line_after-line.ensures c.tabs_after-tabs.ensures

pub returns : goal.returns
returns c = record { line = sym (other_none _ _ _ _ c.loop-b-test.false) ∙ c.loop-b.invariant.left; some = tt }
