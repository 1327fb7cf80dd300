use Rattle.std.proofs.Common.{List, ℕ, ◌+◌, ◌≤◌, sym, ap, ◌∙◌, subst, length}
use Rattle.std.proofs.lemmas.List.{take_rest}
use Rattle.std.proofs.lemmas.List.Edits.{sets}
use Rattle.conversion.specs.Bytes.{bytes_to}
use native.Mathlib.Omega.{arith}
use lib.ListN.{drop, length-drop}
use Rattle.journal.specs.declared.Head.{Head}
use Rattle.journal.specs.JournalLaws.{head-inside}
use Rattle.conversion.proofs.Bytewise.{bytes_most, head-most}
use Rattle.conversion.proofs.Handing.{Sized, over-long, over-room, lines-room, handed-over}
use Rattle.conversion.proofs.hand_over.Goals as goal
use Rattle.conversion.proofs.hand_over.Goals.{After-lines_len}

-- what was counted
sized : (c : After-lines_len) → Sized c.args.to c.args.bytes.now c.head_of-head.result.bytes c.head_len.result c.lines_len.result
sized c = record { begins = ap (λ (h : Head). h.bytes) c.head_of-head.ensures; heads = c.head_len.ensures; counts = c.lines_len.ensures ∙ ap (λ (l : List ℕ). length (bytes_to c.args.to 0 l)) (take_rest c.args.bytes.now c.head_of-head.result.bytes) }

pub slice_bounds-lines-start : goal.slice_bounds-lines-start
slice_bounds-lines-start c = omega (arith, ap (λ (h : Head). h.bytes) c.head_of-head.ensures, head-inside c.args.bytes.now)

pub slice_bounds-lines-count : goal.slice_bounds-lines-count
slice_bounds-lines-count c = omega (arith, ap (λ (h : Head). h.bytes) c.head_of-head.ensures, head-inside c.args.bytes.now)

pub lines_len-requires : goal.lines_len-requires
lines_len-requires c = omega (arith, length-drop c.head_of-head.result.bytes c.args.bytes.now, c.requires)

pub overflow_add-size : goal.overflow_add-size
overflow_add-size c =
    let a = c.args in
    let from = c.head_of-head.result.bytes in
    omega (arith, (sized (goal.at.overflow_add-size c).After-lines_len).counts, c.head_len.ensures, bytes_most a.to 0 (drop from a.bytes.now), length-drop from a.bytes.now, head-most a.to, c.requires)

pub returns-then-size-gt-ROOM : goal.returns-then-size-gt-ROOM
returns-then-size-gt-ROOM c = over-long (sized (goal.at.returns-then-size-gt-ROOM c).After-lines_len) _ c.if-size-gt-ROOM.true

pub returns-then-out-size : goal.returns-then-out-size
returns-then-out-size c = over-room (sized (goal.at.returns-then-out-size c).After-lines_len) _ c.if-size-gt-ROOM.false c.if-out-size.true

pub put_head-at-requires : goal.put_head-at-requires
put_head-at-requires c = omega (arith, c.head_len.ensures, c.if-out-size.false)

pub put_lines-requires : goal.put_lines-requires
put_lines-requires c =
    let a = c.args in
    let from = c.head_of-head.result.bytes in
    let tail = take_rest a.bytes.now from in
    let at = c.put_head-at in
    record {
      short = omega (arith, ap length tail, length-drop from a.bytes.now, c.requires);
      room =
          subst (λ (l : List ℕ). at.result + length (bytes_to a.to 0 l) ≤ length at.new.out) (sym tail)
          (lines-room (sized (goal.at.put_lines-requires c).After-lines_len) c.if-size-gt-ROOM.false c.if-out-size.false at.ensures);
    }

pub returns : goal.returns
returns c =
    let a = c.args in
    let at = c.put_head-at in
    handed-over (sized (goal.at.returns c).After-lines_len) c.if-size-gt-ROOM.false c.if-out-size.false at.ensures
    (c.put_lines.ensures ∙ ap (λ (l : List ℕ). sets at.new.out at.result (bytes_to a.to 0 l)) (take_rest a.bytes.now c.head_of-head.result.bytes))
