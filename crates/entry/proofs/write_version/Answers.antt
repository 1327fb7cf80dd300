use mathlib.Core.Path.{◌≡◌, sym, ap, ◌∙◌}
use mathlib.Core.List.{List, []}
use Prim.Native.Nat.{ℕ, ◌≤◌, ◌<◌}
use native.Mathlib.Nat.{zero-add}
use native.Mathlib.Omega.{arith}
use lib.ListN.{length}
use borrow.Author.Tests.{le-leb, lt-leb}
use Rattle.laws.specs.Pick.{pick-t, pick-f}
use Rattle.laws.specs.Over.{sets_over}
use Rattle.paper.specs.Answer.{Answer, done, refused, told, in_room, leaves}
use Rattle.paper.specs.AnswerLaws.{fills-refused}
use Rattle.paper.specs.Numbers.{R8}
use Rattle.journal.specs.Line.{version_text, write_version_of}
use Rattle.entry.proofs.write_version.Goals as goal

too_short : (room : ℕ) → room < 4 → write_version_of room ≡ refused R8 []
unfolding write_version_of in_room version_text
too_short room h = pick-f _ _ _ (lt-leb _ _ h)

long-enough : (room : ℕ) → 4 ≤ room → write_version_of room ≡ done version_text
unfolding write_version_of in_room version_text
long-enough room h = pick-t _ _ _ (le-leb _ _ h)

four : length version_text ≡ 4
unfolding version_text
four = omega arith

pub returns-then-out-lt-VERSION_LEN : goal.returns-then-out-lt-VERSION_LEN
returns-then-out-lt-VERSION_LEN c = fills-refused (too_short _ c.if-out-lt-VERSION_LEN.true) _

pub returns : goal.returns
unfolding told leaves
returns c =
    let a = c.args in
    let h : 4 ≤ length a.out.now = omega (arith, c.if-out-lt-VERSION_LEN.false) in
    let e = long-enough (length a.out.now) h in
    let s = c.store_version.ensures in
    record {
      says = ap (λ (n : ℕ). done n) (s.next ∙ zero-add _) ∙ sym (ap (told length) e);
      left = s.left ∙ sets_over a.out.now version_text (omega (arith, four)) ∙ sym (ap (λ (w : Answer (List ℕ)). leaves w a.out.now) e);
    }
