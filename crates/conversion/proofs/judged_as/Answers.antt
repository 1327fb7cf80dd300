use mathlib.Core.Path.{◌≡◌, refl, sym, ap, ◌∙◌}
use Rattle.std.proofs.Common.{rules}
use Rattle.journal.specs.declared.Form.TheVariants.{Old, New}
use Rattle.journal.specs.JournalLaws.{head_bytes, head_lines}
use mathlib.Core.Bool.{true, false}
use mathlib.Core.List.{List, [], ◌∷◌}
use Prim.Native.Nat.{ℕ, ◌≤◌, ◌<◌}
use lib.ListN.{length}
use borrow.Author.Tests.{lt-ltb, le-ltb}
use Rattle.laws.specs.Pick.{pick-t, pick-f}
use Rattle.paper.specs.Answer.{refused, told}
use Rattle.paper.specs.Numbers.{R10, R13}
use Rattle.journal.specs.Journal.{form_of, journal_of}
use Rattle.journal.specs.declared.Form.{Form}
use Rattle.journal.specs.declared.Head.{Head}
use Rattle.hourly.specs.Tally.{summary_of}
use Rattle.conversion.specs.Conversion.{is_form, read_as}
use Rattle.std.proofs.lemmas.Result.{err_from_is_err_and}
use Rattle.conversion.proofs.judged_as.Goals as goal

too_long : (f : Form) (s : List ℕ) → 65536 < length s → read_as f s ≡ refused R13 []
unfolding read_as
too_long f s h = pick-t _ _ _ (lt-ltb 65536 (length s) h)

other-form : (f : Form) (s : List ℕ) → length s ≤ 65536 → is_form f (form_of s) ≡ false → read_as f s ≡ refused R10 (1 ∷ [])
unfolding read_as
other-form f s h e = pick-f _ _ _ (le-ltb 65536 (length s) h) ∙ pick-f _ _ _ e

this-form : (f : Form) (s : List ℕ) → length s ≤ 65536 → is_form f (form_of s) ≡ true → read_as f s ≡ journal_of s
unfolding read_as
this-form f s h e = pick-f _ _ _ (le-ltb 65536 (length s) h) ∙ pick-t _ _ _ e

pub returns-then-bytes-gt-ROOM : goal.returns-then-bytes-gt-ROOM
unfolding told
returns-then-bytes-gt-ROOM c = sym (ap (told summary_of) (too_long _ _ c.if-bytes-gt-ROOM.true))

is-same : (f g : Form) → g ≡ f → is_form f g ≡ true
unfolding is_form
is-same Old g e = ap (is_form Old) e
is-same New g e = ap (is_form New) e

is-else : (f g : Form) → (g ≡ f → ⊥) → is_form f g ≡ false
unfolding is_form
is-else Old Old n = absurd (n refl)
is-else Old New n = refl
is-else New Old n = refl
is-else New New n = absurd (n refl)

form-is : (f : Form) (s : List ℕ) (h : Head) → h ≡ record { form = form_of s; bytes = head_bytes (form_of s); lines = head_lines (form_of s) } → h.form ≡ form_of s
form-is f s h e = ap (λ (x : Head). x.form) e

pub returns-then-ne : goal.returns-then-ne
unfolding told
returns-then-ne c =
    let a = c.args in
    let e : c.head_of-head.result.form ≡ a.form → ⊥ = search rules in
    let same = form-is a.form a.bytes.now c.head_of-head.result c.head_of-head.ensures in
    sym (ap (told summary_of) (other-form a.form a.bytes.now c.if-bytes-gt-ROOM.false (ap (is_form a.form) (sym same) ∙ is-else _ _ e)))

pub returns : goal.returns
returns c =
    let a = c.args in
    let e : c.head_of-head.result.form ≡ a.form = search rules in
    let same = form-is a.form a.bytes.now c.head_of-head.result c.head_of-head.ensures in
    c.in_ok-counted.ensures.judged ∙ sym (ap (told summary_of) (this-form a.form a.bytes.now c.if-bytes-gt-ROOM.false (ap (is_form a.form) (sym same) ∙ is-same _ _ e)))

pub returns-in_err-counted : goal.returns-in_err-counted
returns-in_err-counted c =
    let a = c.args in
    let e : c.head_of-head.result.form ≡ a.form = search rules in
    let same = form-is a.form a.bytes.now c.head_of-head.result c.head_of-head.ensures in
    let p = err_from_is_err_and c.from_residual.result c.from_residual.ensures.1 in
    rw (p.1, p.2) (c.in_err-counted.ensures.judged ∙ sym (ap (told summary_of) (this-form a.form a.bytes.now c.if-bytes-gt-ROOM.false (ap (is_form a.form) (sym same) ∙ is-same _ _ e))))
