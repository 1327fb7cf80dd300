use mathlib.Core.Path.{◌≡◌, refl, sym, ap, ◌∙◌}
use mathlib.Core.List.{List}
use Prim.Native.Nat.{ℕ, ◌+◌}
use native.Mathlib.Omega.{arith}
use lib.ListN.{length, drop, get_or}
use Rattle.laws.specs.Decimal.{bad}
use Rattle.journal.specs.Line.{holds, no_line, placed, line_of, line_at}
use Rattle.journal.specs.LineLaws.{LineStands}
use Rattle.journal.specs.Fields.{most_of, fields_after, line_from}
use Rattle.journal.specs.FieldLaws.{letter-none, letter-inside, fielded-none, fielded-more, fielded-bad, fielded-torn, fielded-line}
use Rattle.journal.specs.declared.Form.{Form}
use Rattle.journal.specs.declared.Line.{Line}
use Rattle.journal.proofs.line_at.Goals as goal
use Rattle.journal.proofs.line_at.Goals.{After-line_from}

-- no line stands there
none : (f : Form) (s : List ℕ) (at : ℕ) → line_of f (drop at s) ≡ bad → no_line ≡ line_at f s at
unfolding line_at placed
none f s at e = sym (ap (placed (length s)) e)

-- what the letter asks for
asked : (f : Form) (s : List ℕ) (at : ℕ) {b n : ℕ} → b ≡ get_or s at 0 → n ≡ fields_after f b → n ≡ fields_after f (get_or s at 0)
asked f s at e d = d ∙ ap (fields_after f) e

pub returns-then-fields-eq0 : goal.returns-then-fields-eq0
returns-then-fields-eq0 c = let a = c.args in none a.form a.bytes.now a.at (letter-none a.form a.bytes.now a.at _ (asked a.form a.bytes.now a.at c.byte_at.ensures c.fields_after-fields.ensures) c.if-fields-eq0.true)

pub overflow_add-p : goal.overflow_add-p
overflow_add-p c = let a = c.args in omega (arith, letter-inside a.form a.bytes.now a.at _ (asked a.form a.bytes.now a.at c.byte_at.ensures c.fields_after-fields.ensures) c.if-fields-eq0.false)

pub loop-k-init : goal.loop-k-init
loop-k-init c = let a = c.args in fielded-none a.form a.bytes.now a.at _ _ (asked a.form a.bytes.now a.at c.byte_at.ensures c.fields_after-fields.ensures) c.if-fields-eq0.false refl

pub returns-in_default : goal.returns-in_default
unfolding most_of
returns-in_default c =
    let a = c.args in
    none a.form a.bytes.now a.at (fielded-bad c.loop-k.invariant a.form (asked a.form a.bytes.now a.at c.byte_at.ensures c.fields_after-fields.ensures) c.loop-k-test.true c.field_at.ensures c.in_default.is)

pub bounds-got-k : goal.bounds-got-k
bounds-got-k c = let l = c.loop-k.invariant in omega (arith, c.loop-k-test.true, l.most, l.size)

pub loop-k-preserved : goal.loop-k-preserved
unfolding most_of
loop-k-preserved c = fielded-more c.loop-k.invariant c.loop-k-test.true c.field_at.ensures c.in-Some.is

pub returns-then-byte_at-ne-LF : goal.returns-then-byte_at-ne-LF
returns-then-byte_at-ne-LF c =
    let a = c.args in
    none a.form a.bytes.now a.at (fielded-torn c.loop-k.invariant a.form (asked a.form a.bytes.now a.at c.byte_at.ensures c.fields_after-fields.ensures) c.loop-k-test.false (λ e. c.if-byte_at-ne-LF.true (c.byte_at-2.ensures ∙ e)))

-- the fields make the line, and its LF stands behind them
made : (c : After-line_from) → LineStands c.args.form c.args.bytes.now c.args.at (line_from c.fields_after-fields.result c.loop-k.got) (c.loop-k.p + 1)
made c = fielded-line c.loop-k.invariant _ (asked c.args.form c.args.bytes.now c.args.at c.byte_at.ensures c.fields_after-fields.ensures) c.loop-k-test.false (sym c.byte_at-2.ensures ∙ c.if-byte_at-ne-LF.false)

pub overflow_add-result : goal.overflow_add-result
overflow_add-result c = omega (arith, (made c).inside)

pub returns : goal.returns
returns c = ap (λ (l : Line). holds l (c.loop-k.p + 1)) c.line_from.ensures ∙ sym (made c).is
