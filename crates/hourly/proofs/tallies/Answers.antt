use mathlib.Core.Path.{◌≡◌, refl, sym, ap, ◌∙◌, subst}
use mathlib.Core.Bool.{Bool, true, false, ◌&&◌}
use mathlib.Core.List.{List, [], ◌∷◌}
use Prim.Native.Nat.{ℕ, ◌+◌, ◌≤◌, ◌<◌}
use native.Mathlib.Omega.{arith}
use borrow.Author.Rules.{rules}
use lib.ListN.{length, get_or, drop}
use Rattle.laws.specs.Decimal.{bad}
use Rattle.text.specs.Scan.{LF}
use Rattle.paper.specs.Answer.{refused}
use Rattle.paper.specs.Numbers.{R10, R11, R12}
use Rattle.journal.specs.Line.{line_of}
use Rattle.journal.specs.LineLaws.{LineStands}
use Rattle.journal.specs.Fields.{most_of, fields_after, line_from}
use Rattle.journal.specs.Promises.{Heads, HoursLine, BreaksOrder, GoesFar}
use Rattle.journal.specs.Journal.{hour_in, out_of_order, too_far, form_of, journal_of}
use Rattle.journal.specs.JournalLaws.{head_lines, head_few, journal-long}
use Rattle.journal.specs.FieldLaws.{Fielded, letter-none, fielded-none, fielded-more, fielded-bad, fielded-torn, fielded-line}
use Rattle.journal.specs.declared.Form.{Form}
use Rattle.journal.specs.declared.Head.{Head}
use Rattle.journal.specs.declared.Line.{Line}
use Rattle.journal.specs.declared.Past.{Past}
use Rattle.holes.specs.Holes.{Before}
use Rattle.hourly.specs.declared.Products.{Products}
use Rattle.hourly.specs.declared.Tally.{Tally}
use Rattle.hourly.proofs.Passing.{Passed, Turn, passed_none, counts-refused, counts_all, malformed, late, distant, turn}
use Rattle.hourly.proofs.tallies.Goals as goal
use Rattle.hourly.proofs.tallies.Goals.{After-line_from-line, After-past_after-past}

-- what stands before the first line with an hour
form-is : (s : List ℕ) (h : Head) → Heads s h → h.form ≡ form_of s
form-is s h e = ap (λ (h : Head). h.form) e

lines-is : (s : List ℕ) (h : Head) → Heads s h → h.lines ≡ head_lines (form_of s)
lines-is s h e = ap (λ (h : Head). h.lines) e

-- a refusal of the line that begins there
numbered : (s : List ℕ) (h : Head) (n r : ℕ) → Heads s h → journal_of s ≡ refused r ((head_lines (form_of s) + n + 1) ∷ []) → journal_of s ≡ refused r ((h.lines + n + 1) ∷ [])
numbered s h n r e j = j ∙ ap (λ (k : ℕ). refused r ((k + n + 1) ∷ [])) (sym (lines-is s h e))

-- what its letter asks for
asked : (s : List ℕ) (h : Head) (at fields : ℕ) → Heads s h → fields ≡ fields_after h.form (get_or s at 0) → fields ≡ fields_after (form_of s) (get_or s at 0)
asked s h at fields e a = a ∙ ap (λ (f : Form). fields_after f (get_or s at 0)) (form-is s h e)

-- no line stands where one should
broken : {w : Products} {s : List ℕ} {past : Past} {at n : ℕ} {table : List Tally} {holed : List Bool} {before : Before} (h : Head) → Heads s h
    → Passed w s past at n table holed before → at < length s → line_of (form_of s) (drop at s) ≡ bad → journal_of s ≡ refused R10 ((h.lines + n + 1) ∷ [])
broken h e p i b = numbered _ h _ R10 e (malformed p i b)

-- every field is read, and the LF behind them
here : (s : List ℕ) (h : Head) (at fields : ℕ) (l : Line) {got : List ℕ} {k p b : ℕ} → Heads s h → fields ≡ fields_after h.form (get_or s at 0)
    → Fielded s at fields got k p → fields ≤ k → b ≡ get_or s p 0 → b ≡ LF → l ≡ line_from fields got → LineStands (form_of s) s at l (p + 1)
here s h at fields l {p = p} e a f end b lf m =
    subst (λ (l : Line). LineStands (form_of s) s at l (p + 1)) (sym m)
    (fielded-line f _ (asked s h at fields e a) end (sym b ∙ lf))

-- the tests of its order
order_is : (p : Past) (l : Line) {hour : ℕ} {b : Bool} → HoursLine l hour → BreaksOrder p hour b → (c : Bool) → b ≡ c → (p.begun && out_of_order p.last p.closed (hour_in l)) ≡ c
order_is p l h o c e = ap (λ (h : ℕ). p.begun && out_of_order p.last p.closed h) (sym h) ∙ sym o ∙ e

far-is : (p : Past) (l : Line) {hour : ℕ} {b : Bool} → HoursLine l hour → GoesFar p hour b → (c : Bool) → b ≡ c → (p.begun && too_far p.first (hour_in l)) ≡ c
far-is p l h o c e = ap (λ (h : ℕ). p.begun && too_far p.first h) (sym h) ∙ sym o ∙ e

stands : (c : After-line_from-line) → LineStands (form_of c.args.bytes.now) c.args.bytes.now c.lines.at c.line_from-line.result (c.fields.p + 1)
stands c = here c.args.bytes.now c.head_of-head.result c.lines.at c.fields_after-fields.result c.line_from-line.result c.head_of-head.ensures c.fields_after-fields.ensures c.fields.invariant c.fields-test.false c.byte_at.ensures c.if-byte_at-ne-LF.false c.line_from-line.ensures

-- it is in order, and counted
turned : (c : After-past_after-past) (st : LineStands (form_of c.args.bytes.now) c.args.bytes.now c.lines.at c.line_from-line.result (c.fields.p + 1)) → Turn c.args.products c.args.bytes.now c.past_after-past.result c.lines.lines c.lines.table c.lines.holed c.lines.last c.line_from-line.result c.hour_in-hour.result (c.fields.p + 1)
turned c st =
    turn c.lines.invariant c.line_from-line.result (c.fields.p + 1) st _ _ c.past_after-past.ensures c.hour_in-hour.ensures (omega (arith, c.if-size-gt-ROOM.false))
    (order_is c.lines.past c.line_from-line.result c.hour_in-hour.ensures c.out_of_order.ensures false c.if-out_of_order.false)
    (far-is c.lines.past c.line_from-line.result c.hour_in-hour.ensures c.too_far.ensures false c.if-too_far.false)

pub returns-then-size-gt-ROOM : goal.returns-then-size-gt-ROOM
returns-then-size-gt-ROOM c =
    let s = c.args.bytes.now in
    counts-refused _ s _ (journal-long s (omega (arith, c.if-size-gt-ROOM.true)))

pub lines-init : goal.lines-init
lines-init c =
    let s = c.args.bytes.now in
    passed_none _ s c.no_past-past.result _ c.no_tallies-table.result c.no_holes-holed.result (omega (arith, c.if-size-gt-ROOM.false)) c.no_past-past.ensures (ap (λ (h : Head). h.bytes) c.head_of-head.ensures) c.no_tallies-table.ensures c.no_holes-holed.ensures

-- lines are few, and one more at most stands before them
few-lines : {w : Products} {s : List ℕ} {past : Past} {at n : ℕ} {table : List Tally} {holed : List Bool} {before : Before} (h : Head) → Heads s h
    → Passed w s past at n table holed before → length s ≤ 65536 → h.lines + n ≤ 16385
few-lines {s = s} h e p small = omega (arith, p.few, p.inside, small, lines-is s h e, head_few (form_of s))

pub overflow_add-number : goal.overflow_add-number
overflow_add-number c = omega (arith, few-lines c.head_of-head.result c.head_of-head.ensures c.lines.invariant (omega (arith, c.if-size-gt-ROOM.false)))

pub overflow_add-number-in-lines : goal.overflow_add-number-in-lines
overflow_add-number-in-lines c = omega (arith, few-lines c.head_of-head.result c.head_of-head.ensures c.lines.invariant (omega (arith, c.if-size-gt-ROOM.false)))

pub bounds-bytes-at : goal.bounds-bytes-at
bounds-bytes-at c = omega (arith, c.if-at-size.false)

pub overflow_add-p : goal.overflow_add-p
overflow_add-p c = omega (arith, c.if-at-size.false)

pub fields-init : goal.fields-init
fields-init c = fielded-none _ c.args.bytes.now c.lines.at _ _ (asked c.args.bytes.now c.head_of-head.result c.lines.at c.fields_after-fields.result c.head_of-head.ensures c.fields_after-fields.ensures) c.if-fields-eq0.false refl

pub offset_bounds-k : goal.offset_bounds-k
offset_bounds-k c = let f = c.fields.invariant in omega (arith, c.fields-test.true, f.most)

pub offset_bounds-got-k : goal.offset_bounds-got-k
offset_bounds-got-k c = let f = c.fields.invariant in omega (arith, c.fields-test.true, f.most, f.size)

pub bounds-got-k : goal.bounds-got-k
bounds-got-k c = let f = c.fields.invariant in omega (arith, c.fields-test.true, f.most, f.size)

pub fields-preserved : goal.fields-preserved
unfolding most_of
fields-preserved c = fielded-more c.fields.invariant c.fields-test.true c.field_at.ensures c.in-Some.is

pub overflow_sub-place : goal.overflow_sub-place
overflow_sub-place c = omega (arith, (turned (goal.at.overflow_sub-place c).After-past_after-past (stands (goal.at.overflow_sub-place c).After-line_from-line)).low)

pub offset_bounds-table-place : goal.offset_bounds-table-place
offset_bounds-table-place c = omega (arith, (turned (goal.at.offset_bounds-table-place c).After-past_after-past (stands (goal.at.offset_bounds-table-place c).After-line_from-line)).high)

pub bounds-table-place : goal.bounds-table-place
bounds-table-place c = omega (arith, (turned (goal.at.bounds-table-place c).After-past_after-past (stands (goal.at.bounds-table-place c).After-line_from-line)).high)

pub with_line-requires : goal.with_line-requires
with_line-requires c = (turned (goal.at.with_line-requires c).After-past_after-past (stands (goal.at.with_line-requires c).After-line_from-line)).few

pub offset_bounds-table-place-in-lines : goal.offset_bounds-table-place-in-lines
offset_bounds-table-place-in-lines c = omega (arith, (turned (goal.at.offset_bounds-table-place-in-lines c).After-past_after-past (stands (goal.at.offset_bounds-table-place-in-lines c).After-line_from-line)).high)

pub bounds-table-place-in-lines : goal.bounds-table-place-in-lines
bounds-table-place-in-lines c = omega (arith, (turned (goal.at.bounds-table-place-in-lines c).After-past_after-past (stands (goal.at.bounds-table-place-in-lines c).After-line_from-line)).high)

pub slice_bounds-mark_hole-end : goal.slice_bounds-mark_hole-end
slice_bounds-mark_hole-end c = search (rules, c.lines.invariant.marks.size)

pub overflow_add-at : goal.overflow_add-at
overflow_add-at c = omega (arith, (stands (goal.at.overflow_add-at c).After-line_from-line).inside, c.if-size-gt-ROOM.false)

pub overflow_add-lines : goal.overflow_add-lines
overflow_add-lines c = omega (arith, few-lines c.head_of-head.result c.head_of-head.ensures c.lines.invariant (omega (arith, c.if-size-gt-ROOM.false)))

pub lines-smaller : goal.lines-smaller
lines-smaller c = let st = stands (goal.at.lines-smaller c).After-line_from-line in omega (arith, st.onward, st.inside)

pub lines-preserved : goal.lines-preserved
lines-preserved c = rw c.with_line.ensures ((turned (goal.at.lines-preserved c).After-past_after-past (stands (goal.at.lines-preserved c).After-line_from-line)).again _ _ c.mark_hole.ensures c.before_next-last.ensures)

pub returns-then-fields-eq0 : goal.returns-then-fields-eq0
returns-then-fields-eq0 c =
    let s = c.args.bytes.now in
    counts-refused _ s _
    (broken c.head_of-head.result c.head_of-head.ensures c.lines.invariant (omega (arith, c.if-at-size.false))
    (letter-none _ s c.lines.at _ (asked c.args.bytes.now c.head_of-head.result c.lines.at c.fields_after-fields.result c.head_of-head.ensures c.fields_after-fields.ensures) c.if-fields-eq0.true))

pub returns-in_default : goal.returns-in_default
unfolding most_of
returns-in_default c =
    counts-refused _ c.args.bytes.now _
    (broken c.head_of-head.result c.head_of-head.ensures c.lines.invariant (omega (arith, c.if-at-size.false))
    (fielded-bad c.fields.invariant _ (asked c.args.bytes.now c.head_of-head.result c.lines.at c.fields_after-fields.result c.head_of-head.ensures c.fields_after-fields.ensures) c.fields-test.true c.field_at.ensures c.in_default.is))

pub returns-then-byte_at-ne-LF : goal.returns-then-byte_at-ne-LF
returns-then-byte_at-ne-LF c =
    counts-refused _ c.args.bytes.now _
    (broken c.head_of-head.result c.head_of-head.ensures c.lines.invariant (omega (arith, c.if-at-size.false))
    (fielded-torn c.fields.invariant _ (asked c.args.bytes.now c.head_of-head.result c.lines.at c.fields_after-fields.result c.head_of-head.ensures c.fields_after-fields.ensures) c.fields-test.false (λ e. c.if-byte_at-ne-LF.true (c.byte_at.ensures ∙ e))))

pub returns-then-out_of_order : goal.returns-then-out_of_order
returns-then-out_of_order c =
    counts-refused _ c.args.bytes.now _
    (numbered c.args.bytes.now c.head_of-head.result c.lines.lines R11 c.head_of-head.ensures
    (late c.lines.invariant c.line_from-line.result (c.fields.p + 1) (stands (goal.at.returns-then-out_of_order c).After-line_from-line) (order_is c.lines.past c.line_from-line.result c.hour_in-hour.ensures c.out_of_order.ensures true c.if-out_of_order.true)))

pub returns-then-too_far : goal.returns-then-too_far
returns-then-too_far c =
    counts-refused _ c.args.bytes.now _
    (numbered c.args.bytes.now c.head_of-head.result c.lines.lines R12 c.head_of-head.ensures
    (distant c.lines.invariant c.line_from-line.result (c.fields.p + 1) (stands (goal.at.returns-then-too_far c).After-line_from-line) (order_is c.lines.past c.line_from-line.result c.hour_in-hour.ensures c.out_of_order.ensures false c.if-out_of_order.false) (far-is c.lines.past c.line_from-line.result c.hour_in-hour.ensures c.too_far.ensures true c.if-too_far.true)))

pub returns-then-at-size : goal.returns-then-at-size
returns-then-at-size c = rw c.accepted.ensures (counts_all c.lines.invariant (omega (arith, c.if-at-size.true)) _ c.with_holes.ensures)
