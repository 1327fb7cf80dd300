use mathlib.Core.Path.{◌≡◌, sym, ap, ◌∙◌}
use native.Mathlib.Omega.{arith}
use Rattle.std.specs.Prelude.{Some}
use mir.Syntax.{w32}
use mir.Val.{SFits}
use Rattle.lines.specs.declared.Taken.{Taken}
use Rattle.lines.specs.Places.{part_of}
use Rattle.clock.specs.Part.{part_length}
use Rattle.calls.specs.Reads.{read-call}
use Rattle.acts.specs.Script.{line-behind, line-short}
use borrow.Author.Rules.{rules}
use Rattle.script.specs.Sight.{ticked, sight_of}
use Rattle.script.specs.Told.{tick-told, tick-ahead, no-tick}
use Rattle.recorder.proofs.Listening.{is-over, first-box, first-writes, over-box, over-note, sighted-heard, other-heard, recorded-box, ticked-writes, passed-note}
use Rattle.recorder.proofs.Feeding.{written, notes-part, notes-none, inside, feeding-none, feeding-full, feeding-more, feeding-line, feeding-tick}
use Rattle.recorder.proofs.feed.Goals as goal

pub loop-out-init : goal.loop-out-init
loop-out-init c = (feeding-none c.args.r c.args.intake c.requires, c.no_bytes-bytes.ensures)

-- ---- a line before or after recording

pub returns-in_default-next : goal.returns-in_default-next
returns-in_default-next c = feeding-more c.loop-out.invariant.0 c.next_line-taken.result c.next_line-taken.ensures c.loop-out-test.true c.in_default-next.is

pub loop-out-smaller-in_default-stage : goal.loop-out-smaller-in_default-stage
loop-out-smaller-in_default-stage c = let b = line-behind _ _ c.next_line-taken.result c.next_line-taken.ensures c.in-Some.is in omega (arith, b.inside, b.place, b.ahead)

pub loop-out-preserved-in_default-stage : goal.loop-out-preserved-in_default-stage
unfolding part_of
loop-out-preserved-in_default-stage c =
    let l = c.loop-out in
    let w = l.invariant.0 in
    let t = c.next_line-taken in
    let over = is-over c.in_default.not-Recording c.in_default-stage.not-First in (
      feeding-line w t.result t.ensures c.loop-out-test.true c.in-Some.is (notes-none (inside w) (over-box l.c l.k _ over) (over-note l.c l.k _ over)),
      l.invariant.1,
    )

pub slice_bounds-first-count : goal.slice_bounds-first-count
slice_bounds-first-count c = let b = line-behind _ _ c.next_line-taken.result c.next_line-taken.ensures c.in-Some.is in b.order

pub slice_bounds-first-start : goal.slice_bounds-first-start
slice_bounds-first-start c = let b = line-behind _ _ c.next_line-taken.result c.next_line-taken.ensures c.in-Some.is in b.order

pub slice_bounds-first-end : goal.slice_bounds-first-end
slice_bounds-first-end c = let b = line-behind _ _ c.next_line-taken.result c.next_line-taken.ensures c.in-Some.is in omega (arith, b.inside)

pub overflow_add-len : goal.overflow_add-len
overflow_add-len c =
    let l = c.loop-out in
    let w = l.invariant.0 in
    let m = c.first-marked in
    omega (arith, written m.ensures.writes m.auto.out, part_length l.out l.len, w.room, w.long, c.well_formed)

pub loop-out-smaller-in_default : goal.loop-out-smaller-in_default
loop-out-smaller-in_default c = let b = line-behind _ _ c.next_line-taken.result c.next_line-taken.ensures c.in-Some.is in omega (arith, b.inside, b.place, b.ahead)

pub loop-out-preserved-in_default : goal.loop-out-preserved-in_default
unfolding part_of
loop-out-preserved-in_default c =
    let l = c.loop-out in
    let w = l.invariant.0 in
    let t = c.next_line-taken in
    let room = c.loop-out-test.true in
    let first = c.in-First.is in
    let m = c.first-marked in (
      feeding-line w t.result t.ensures room c.in-Some.is
          (notes-part (inside w) (first-box l.c l.k _ first) m.result m.auto.out
          (first-writes l.c l.k _ first (omega (arith, part_length l.out l.len, room)) m.ensures)),
      l.invariant.1,
    )

-- ---- a tick

pub overflow_add-len-in-Some-tick_next : goal.overflow_add-len-in-Some-tick_next
overflow_add-len-in-Some-tick_next c =
    let l = c.loop-out in
    let w = l.invariant.0 in
    let m = c.heard-marked in
    omega (arith, written m.ensures.writes m.auto.out, part_length l.out l.len, w.room, w.long, c.well_formed)

pub loop-out-smaller-in-Some-tick_next : goal.loop-out-smaller-in-Some-tick_next
loop-out-smaller-in-Some-tick_next c = let less = tick-ahead _ _ (sym c.tick_next.ensures ∙ c.in-Some-tick_next.is) in omega (arith, less)

pub loop-out-preserved-in-Some-tick_next : goal.loop-out-preserved-in-Some-tick_next
loop-out-preserved-in-Some-tick_next c =
    let l = c.loop-out in
    let w = l.invariant.0 in
    let room = c.loop-out-test.true in
    let stage = c.in-Recording.is in
    let m = c.heard-marked in
    let sight : sight_of l.at c.args.input.now ≡ Some (ticked c.in-Some-tick_next.tick.sample c.in-Some-tick_next.tick.inputs c.in-Some-tick_next.tick.next) = sym c.tick_next.ensures ∙ c.in-Some-tick_next.is in
    let fits : SFits w32 c.in-Some-tick_next.tick.sample = search rules in
    let heard = sighted-heard c.tick-ticked.result (tick-told _ _ sight).call fits c.tick-ticked.ensures c.heard_tick.ensures in (
      feeding-tick w sight room
          (notes-part (inside w) (recorded-box l.k stage heard) m.result m.auto.out
          (ticked-writes l.k stage heard w.carries.sound (omega (arith, part_length l.out l.len, room)) m.ensures)),
      l.invariant.1,
    )

-- ---- any other line

pub returns-in_default-next-2 : goal.returns-in_default-next-2
returns-in_default-next-2 c = feeding-more c.loop-out.invariant.0 c.next_line-taken-in-loop-out.result c.next_line-taken-in-loop-out.ensures c.loop-out-test.true c.in_default-next-2.is

pub slice_bounds-read-count : goal.slice_bounds-read-count
slice_bounds-read-count c = let b = line-behind _ _ c.next_line-taken-in-loop-out.result c.next_line-taken-in-loop-out.ensures c.in-Some-next.is in b.order

pub slice_bounds-read-start : goal.slice_bounds-read-start
slice_bounds-read-start c = let b = line-behind _ _ c.next_line-taken-in-loop-out.result c.next_line-taken-in-loop-out.ensures c.in-Some-next.is in b.order

pub slice_bounds-read-end : goal.slice_bounds-read-end
slice_bounds-read-end c = let b = line-behind _ _ c.next_line-taken-in-loop-out.result c.next_line-taken-in-loop-out.ensures c.in-Some-next.is in omega (arith, b.inside)

pub loop-out-smaller : goal.loop-out-smaller
loop-out-smaller c = let b = line-behind _ _ c.next_line-taken-in-loop-out.result c.next_line-taken-in-loop-out.ensures c.in-Some-next.is in omega (arith, b.inside, b.place, b.ahead)

pub loop-out-preserved : goal.loop-out-preserved
unfolding part_of
loop-out-preserved c =
    let l = c.loop-out in
    let w = l.invariant.0 in
    let t = c.next_line-taken-in-loop-out in
    let line = c.in-Some-next.is in
    let stage = c.in-Recording.is in
    let read = c.read-call in
    let made = c.other-acted in
    let answer = c.by_answer.ensures in
    let is = read-call read.ensures (omega (arith, l.invariant.1)) (line-short _ _ t.result t.ensures line) in
    let other = no-tick _ _ (sym c.tick_next.ensures ∙ c.in_default-tick_next.is) (ap (λ (x : Taken). x.next) (sym t.ensures) ∙ line) _ read.result is in
    let heard = other-heard is other read.ensures made.ensures answer in (
      feeding-line w t.result t.ensures c.loop-out-test.true line
          (notes-none (inside w) (recorded-box l.k stage heard) (passed-note l.k stage heard answer c.passed-k.ensures.next)),
      omega (arith, l.invariant.1, read.auto.bytes),
    )

pub returns-after-loop-out : goal.returns-after-loop-out
returns-after-loop-out c = feeding-full c.loop-out.invariant.0 c.loop-out-test.false
