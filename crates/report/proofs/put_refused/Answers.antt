use mathlib.Core.List.{List, [], ◌∷◌, ◌++◌}
use Prim.Native.Nat.{ℕ, ◌+◌, ◌≤◌}
use native.Mathlib.Omega.{arith}
use borrow.Author.Rules.{rules}
use lib.ListN.{length}
use Rattle.laws.specs.Decimal.{decimal}
use Rattle.text.specs.PutLaws.{room-not, none-puts, digits-most, put_then}
use Rattle.text.specs.Scan.{LF, TAB}
use Rattle.report.specs.Report.{letter_r, refusal_text, refusal-length}
use Rattle.report.proofs.put_refused.Goals as goal

pub overflow_add-size : goal.overflow_add-size
overflow_add-size c = omega (arith, c.decimal_len.ensures, digits-most c.args.number (search rules), c.decimal_len-2.ensures, digits-most c.args.line (search rules))

pub overflow_add-size-2 : goal.overflow_add-size-2
overflow_add-size-2 c = omega (arith, c.decimal_len.ensures, digits-most c.args.number (search rules), c.decimal_len-2.ensures, digits-most c.args.line (search rules))

pub returns-then-out-size : goal.returns-then-out-size
returns-then-out-size c =
    let a = c.args in
    none-puts a.out.now 0 (refusal_text a.number a.line) (room-not a.out.now 0 (refusal_text a.number a.line) (omega (arith, c.if-out-size.true, c.decimal_len.ensures, c.decimal_len-2.ensures, refusal-length a.number a.line)))

pub returns : goal.returns
unfolding refusal_text
returns c =
    let a = c.args in
    let t5 : List ℕ = LF ∷ [] in
    let t4 : List ℕ = decimal a.line ++ t5 in
    let t3 : List ℕ = TAB ∷ t4 in
    let t2 : List ℕ = decimal a.number ++ t3 in
    let t1 : List ℕ = TAB ∷ t2 in
    let room : 0 + length (letter_r ∷ t1) ≤ length a.out.now = omega (arith, c.if-out-size.false, c.decimal_len.ensures, c.decimal_len-2.ensures, refusal-length a.number a.line) in
    put_then (letter_r ∷ []) t1 room c.put_byte-p.ensures
    (λ h. put_then (TAB ∷ []) t2 h c.put_byte-p-2.ensures
    (λ h. put_then (decimal a.number) t3 h c.put_decimal-p.ensures
    (λ h. put_then (TAB ∷ []) t4 h c.put_byte-p-3.ensures
    (λ h. put_then (decimal a.line) t5 h c.put_decimal-p-2.ensures
    (λ h. c.put_byte.ensures)))))
