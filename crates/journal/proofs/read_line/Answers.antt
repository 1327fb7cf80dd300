use mathlib.Core.Path.{◌≡◌, sym, ◌∙◌}
use mathlib.Core.Bool.{true, false}
use mathlib.Core.List.{List}
use Prim.Native.Nat.{ℕ}
use Rattle.laws.specs.Pick.{pick-t, pick-f, so}
use Rattle.paper.specs.Answer.{done}
use Rattle.journal.specs.Line.{line_of, is_version, version, whole, one_line}
use Rattle.journal.specs.declared.Form.{Form}
use Rattle.journal.specs.declared.Form.TheVariants.{Old, New}
use Rattle.journal.proofs.read_line.Goals as goal

-- what a line by itself is in each form
old-line : (f : Form) (s : List ℕ) → f ≡ Old → whole (line_of f s) ≡ one_line f s
unfolding one_line
old-line f s e = rw e

new-version : (f : Form) (s : List ℕ) → f ≡ New → is_version s ≡ true → done version ≡ one_line f s
unfolding one_line
new-version f s e v = rw e (sym (pick-t _ _ _ v))

new-dated : (f : Form) (s : List ℕ) → f ≡ New → is_version s ≡ false → whole (line_of f s) ≡ one_line f s
unfolding one_line
new-dated f s e v = rw e (sym (pick-f _ _ _ v))

pub returns-then-is_version : goal.returns-then-is_version
returns-then-is_version c = new-version _ _ c.in-New.is (so c.is_version.ensures c.if-is_version.true)

pub returns-in-Old : goal.returns-in-Old
returns-in-Old c = c.read_dated.ensures ∙ old-line _ _ c.in-Old.is

pub returns-else-is_version : goal.returns-else-is_version
returns-else-is_version c = c.read_dated-in-New.ensures ∙ new-dated _ _ c.in-New.is (so c.is_version.ensures c.if-is_version.false)
