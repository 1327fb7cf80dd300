use native.Mathlib.Omega.{arith}
use borrow.Author.Rules.{rules}
use Rattle.acts.specs.Script.{brings-line, brings-more, line-behind, line-short}
use Rattle.preset.proofs.bring.Goals as goal

pub returns-in_default : goal.returns-in_default
returns-in_default c = brings-more _ _ _ c.next_line-taken.ensures c.loop-from.invariant c.in_default.is

-- the line lies in the buffer
pub slice_bounds-made-count : goal.slice_bounds-made-count
slice_bounds-made-count c = (line-behind _ _ _ c.next_line-taken.ensures c.in-Some.is).order

pub slice_bounds-made-start : goal.slice_bounds-made-start
slice_bounds-made-start c = (line-behind _ _ _ c.next_line-taken.ensures c.in-Some.is).order

pub slice_bounds-made-end : goal.slice_bounds-made-end
slice_bounds-made-end c = let b = line-behind _ _ _ c.next_line-taken.ensures c.in-Some.is in omega (arith, b.inside)

pub made-c-requires : goal.made-c-requires
made-c-requires c = record {
  sound = c.loop-from.invariant.sound;
  line = line-short _ _ _ c.next_line-taken.ensures c.in-Some.is;
  room = search rules;
}

-- what a line makes of the box, the lines behind it find
pub returns-then-to-start : goal.returns-then-to-start
returns-then-to-start c = brings-line _ _ _ c.next_line-taken.ensures c.loop-from.invariant c.in-Some.is c.made-c.ensures

pub loop-from-preserved : goal.loop-from-preserved
loop-from-preserved c = brings-line _ _ _ c.next_line-taken.ensures c.loop-from.invariant c.in-Some.is c.made-c.ensures

pub loop-from-smaller : goal.loop-from-smaller
loop-from-smaller c =
    let b = line-behind _ _ _ c.next_line-taken.ensures c.in-Some.is in
    omega (arith, b.place, b.ahead, b.inside)
