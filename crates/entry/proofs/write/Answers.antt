use mathlib.Core.Path.{◌≡◌, sym, ap, ◌∙◌}
use mathlib.Core.List.{List, []}
use Prim.Native.Nat.{ℕ, ◌≤◌}
use native.Mathlib.Nat.{zero-add}
use native.Mathlib.Omega.{arith}
use lib.ListN.{length}
use borrow.Author.Tests.{not-true, not-false}
use Rattle.laws.specs.Pick.{so}
use Rattle.laws.specs.Over.{sets_over}
use Rattle.paper.specs.Answer.{Answer, done, refused, told, leaves}
use Rattle.paper.specs.AnswerLaws.{fills-refused}
use Rattle.paper.specs.Numbers.{R8}
use Rattle.journal.specs.Line.{text_of, write_of}
use Rattle.journal.specs.LineLaws.{write-range, write-short, write-fits}
use Rattle.entry.proofs.write.Goals as goal
use Rattle.entry.proofs.write.Goals.{Then-out-text_len}

-- the line does not fit
too_short : (c : Then-out-text_len) → write_of c.args.form c.args.line (length c.args.out.now) ≡ refused R8 []
too_short c =
    write-short _ _ _ (so c.in_range.ensures (not-false _ c.if-not-in_range.false-raw)) (omega (arith, c.text_len.ensures, c.if-out-text_len.true))

pub returns-then-not-in_range : goal.returns-then-not-in_range
returns-then-not-in_range c = fills-refused (write-range _ _ _ (so c.in_range.ensures (not-true _ c.if-not-in_range.true-raw))) _

pub returns-then-out-text_len : goal.returns-then-out-text_len
returns-then-out-text_len c = fills-refused (too_short c) _

pub returns : goal.returns
unfolding told leaves
returns c =
    let a = c.args in
    let h : length (text_of a.form a.line) ≤ length a.out.now = omega (arith, c.text_len.ensures, c.if-out-text_len.false) in
    let e = write-fits a.form a.line (length a.out.now) (so c.in_range.ensures (not-false _ c.if-not-in_range.false-raw)) h in
    let s = c.store_line.ensures in
    record {
      says = ap (λ (n : ℕ). done n) (s.next ∙ zero-add _) ∙ sym (ap (told length) e);
      left = s.left ∙ sets_over a.out.now (text_of a.form a.line) h ∙ sym (ap (λ (w : Answer (List ℕ)). leaves w a.out.now) e);
    }
